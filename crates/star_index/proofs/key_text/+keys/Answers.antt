use Rattle.std.proofs.lemmas.Result.{on_ok_weaker}
use Rattle.star_steps.proofs.Names.{◌++◌, ◌∙◌}
use Rattle.star_index.proofs.Names.{ap, closed, key_texts, seen, string_bytes, tuple_shown, values_from, values_of}
use Rattle.star_index.proofs.key_text.+keys.Goals as goal

pub push_tuple-returns : goal.push_tuple-returns
push_tuple-returns t c =
    let vs = values_from (values_of (seen c.args.arena.now) c.args.members.now) in
    on_ok_weaker c.append-2.result
    (λ h. tuple_shown (string_bytes c.args.shown.now) (string_bytes c.append.new.text) (string_bytes c.push_members.new.shown) (string_bytes c.append-2.new.text) (key_texts vs) (closed vs) c.in_ok-append.ensures c.in_ok-push_members.ensures
    (h ∙ ap (λ l. string_bytes c.push_members.new.shown ++ l) (c.closed.ensures (seen c.args.arena.now))))
    c.append-2.ensures
