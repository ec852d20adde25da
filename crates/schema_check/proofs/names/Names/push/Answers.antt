use Rattle.std.proofs.Common.{◌≡◌, ◌∙◌, true, false, cond, Some, ap, sym, bytes_eq}
use Rattle.std.specs.Option.{is_some}
use Rattle.std.specs.HashMap.{get_by_text}
use Rattle.std.specs.Prelude.{string_bytes}
use Rattle.std.proofs.lemmas.Map.Text.{hash_map_updates_text}
use Rattle.schema_check.specs.Places.{place_of}
use Rattle.schema_check.proofs.Places.{place_of-known, place_of-new}
use Rattle.schema_check.proofs.names.Names.push.Goals as goal

pub invariant_of-self-then-contains_key : goal.invariant_of-self-then-contains_key
invariant_of-self-then-contains_key c = λ x.
    let names = c.self.inside.names in
    let same : c.as_str-2.result.now ≡ c.args.name = c.as_str-2.ensures.value ∙ c.in_ok-own.ensures.ok ∙ c.as_str.ensures in
    let known : is_some (place_of c.args.name names) ≡ true =
    ap is_some (sym (c.self.invariant c.args.name)) ∙ ap (λ n. is_some (get_by_text c.self.inside.places n)) (sym same) ∙ sym c.contains_key.ensures ∙ c.if-contains_key.true
    in c.self.invariant x ∙ sym (place_of-known x c.args.name names known) ∙ ap (place_of x) (sym c.in_ok-push.ensures.ok)

pub invariant_of-self-in_default : goal.invariant_of-self-in_default
invariant_of-self-in_default c = λ x.
    let own = c.in_ok-own.own in
    let names = c.self.inside.names in
    let name_is : string_bytes own ≡ c.args.name = c.in_ok-own.ensures.ok ∙ c.as_str.ensures in
    let same : c.as_str-2.result.now ≡ c.args.name = c.as_str-2.ensures.value ∙ name_is in
    let new : is_some (place_of c.args.name names) ≡ false =
    ap is_some (sym (c.self.invariant c.args.name)) ∙ ap (λ n. is_some (get_by_text c.self.inside.places n)) (sym same) ∙ sym c.contains_key.ensures ∙ c.if-contains_key.false
    in
    let updates = hash_map_updates_text (string_bytes own) c.self.inside.places c.insert.new.self (Some c.len-place.result) c.in_default.ensures.updates in
    updates x
    ∙ ap (λ n. cond (bytes_eq n x) (Some c.len-place.result) (get_by_text c.self.inside.places x)) name_is
    ∙ (λ i. cond (bytes_eq c.args.name x) (Some (c.len-place.ensures i)) (c.self.invariant x i))
    ∙ sym (place_of-new x c.args.name names new)
    ∙ ap (place_of x) (sym c.in_ok-push-2.ensures.ok)
