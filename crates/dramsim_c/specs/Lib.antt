pub mod CInterface
