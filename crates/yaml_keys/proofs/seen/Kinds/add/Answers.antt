use Rattle.std.proofs.Common.{◌∙◌, true, rules, ◌≡◌}
use Rattle.std.proofs.lemmas.Int.{to_z-of_z}
use Rattle.std.proofs.lemmas.Map.Text.{hash_set_updates_text}
use Rattle.std.specs.Prelude.{string_bytes}
use Rattle.yaml_keys.proofs.Sets.{integer_added, text_added}
use Rattle.yaml_keys.proofs.seen.Kinds.add.Goals as goal

pub returns-in_ok-insert-in-Int-clause-among : goal.returns-in_ok-insert-in-Int-clause-among
returns-in_ok-insert-in-Int-clause-among c = rw c.in-Int.is (integer_added c.args.self.now c.in-Int.n c.insert.new.self (search (rules, to_z-of_z)))

pub returns-in_ok-insert-in-Str-clause-among : goal.returns-in_ok-insert-in-Str-clause-among
returns-in_ok-insert-in-Str-clause-among c =
    let same : string_bytes c.in_ok-from_str-in-Str.field-0 ≡ c.in-Str.text = c.in_ok-from_str-in-Str.ensures.ok ∙ c.as_str.ensures in
    let updates = hash_set_updates_text (string_bytes c.in_ok-from_str-in-Str.field-0) c.args.self.now.texts c.insert-in-Str.new.self true c.in_ok-insert-in-Str.ensures.updates in
    rw c.in-Str.is (text_added c.args.self.now c.in-Str.text c.insert-in-Str.new.self (rw same at updates))
