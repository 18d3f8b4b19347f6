-- What the host's answers mean.
--     IsFolder found, IsPlainFile found, IsLink found      a folder stands at the path, or a file, or a symbolic link
--     IsSpecial found      something else
--     IsMissing error      nothing stands there
--     LacksMemory error      the host lacked memory
use Rattle.std.specs.Prelude.{◌≡◌}
use Rattle.std.specs.Fs.{file_type, IsDir, IsFile, IsSymlink}
use Rattle.std.specs.IoError.{error_kind}
use Rattle.std.specs.declared.fs.Metadata.{Metadata}
use Rattle.std.specs.declared.io.Error.{Error}
use Rattle.std.specs.declared.io.ErrorKind.TheVariants.{NotFound, OutOfMemory}

-- a folder stands at the path
abbrev pub IsFolder : Metadata → Type 0
IsFolder found = IsDir (file_type found)

-- a file stands there
abbrev pub IsPlainFile : Metadata → Type 0
IsPlainFile found = IsFile (file_type found)

-- a symbolic link stands there
abbrev pub IsLink : Metadata → Type 0
IsLink found = IsSymlink (file_type found)

-- something else stands there, such as a device or a pipe
abbrev pub IsSpecial : Metadata → Type 0
IsSpecial found = (¬ IsFolder found) × (¬ IsPlainFile found) × (¬ IsLink found)

-- nothing stands there
abbrev pub IsMissing : Error → Type 0
IsMissing error = error_kind error ≡ NotFound

-- the host lacked memory
abbrev pub LacksMemory : Error → Type 0
LacksMemory error = error_kind error ≡ OutOfMemory
