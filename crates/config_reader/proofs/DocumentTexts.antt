-- The meaning of bytes that are a text, and of others.
use Rattle.std.proofs.Common.{◌≡◌, List, ℕ, Err, IsUtf8}
use Rattle.std.specs.Str.{is_utf8}
use Rattle.std.proofs.lemmas.Bool.{false_from_ne_true}
use Rattle.std.proofs.lemmas.Str.{IsUtf8-from_is_utf8, is_utf8-from_IsUtf8}
use Rattle.toml.specs.Parse.{parse_document}
use Rattle.config_reader.specs.Document.{config_from, document_of}
use Rattle.sim_base.specs.declared.fault.Fault.TheVariants.{ConfigSyntax}

pub document_of_text : (bytes : List ℕ) → IsUtf8 bytes → document_of bytes ≡ config_from (parse_document bytes)
unfolding document_of
document_of_text bytes utf8 = rw (is_utf8-from_IsUtf8 bytes utf8)

pub document_of_bytes : (bytes : List ℕ) → ¬ (IsUtf8 bytes) → document_of bytes ≡ Err ConfigSyntax
unfolding document_of
document_of_bytes bytes other = rw (false_from_ne_true (is_utf8 bytes) (λ e. other (IsUtf8-from_is_utf8 bytes e)))
