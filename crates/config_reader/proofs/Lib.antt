pub mod TableViews
pub mod LinkTests
pub mod DocumentTexts
pub mod Refusing
pub mod KeysListed
