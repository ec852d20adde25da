use Rattle.std.proofs.Common.{subst}
use Rattle.std.proofs.lemmas.Str.{is_utf8-from_IsUtf8}
use Rattle.std.specs.Str.{IsUtf8}
use Rattle.mod_codec.proofs.document.document_text.Goals as goal

pub returns-clause-utf8 : goal.returns-clause-utf8
returns-clause-utf8 c = is_utf8-from_IsUtf8 c.in_ok-text.text (subst IsUtf8 c.as_str-slice.ensures c.as_str-slice.utf8)
