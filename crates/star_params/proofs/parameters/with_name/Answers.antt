use Rattle.std.proofs.Common.{◌∙◌, true}
use Rattle.std.proofs.lemmas.Map.Text.{hash_set_updates_text}
use Rattle.std.specs.HashSet.{contains_text}
use Rattle.std.specs.Prelude.{bytes_eq, string_bytes}
use Rattle.star_params.proofs.Told.{put_in}
use Rattle.star_params.proofs.parameters.with_name.Goals as goal

pub returns : goal.returns
returns c = λ y.
    hash_set_updates_text (string_bytes c.in_ok-from_str.field-0) c.args.names c.insert.new.self true c.in_ok-insert.ensures.updates y ∙ (rw c.in_ok-from_str.ensures.ok (put_in (bytes_eq c.args.name.now y) (contains_text c.args.names y)))
