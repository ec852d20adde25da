use Rattle.std.proofs.Common.{◌++◌, Ok, ap, map as each, subst, sym, ◌∙◌}
use Rattle.star_steps.proofs.Names.{Makes, grows_then, seen, text_value, values_of}
use Rattle.star_builtins.proofs.Sequencing.{more_made, more_owned}
use Rattle.star_builtins.proofs.field_names.texts.Goals as goal

pub loop-first-preserved : goal.loop-first-preserved
loop-first-preserved c =
    let a = seen c.loop-first.arena in
    let b = seen c.new_text.new.self in
    let so_far = c.loop-first.invariant in
    let xs = c.loop-first.texts in
    let made = subst (λ t. Makes (text_value t) (Ok c.in_ok-text.text) a b) c.in_ok-copy.ensures c.in_ok-text.ensures.made in
    record {
      values =
          more_made a b (text_value c.in-Some.first.now) c.in_ok-text.text xs c.push.new.self made so_far.owns c.in_ok-push.ensures.ok (each text_value c.in-Some.more.now) (each text_value c.args.names.now)
          (ap (λ ts. values_of a xs ++ each text_value ts) (sym c.in-Some.ensures.cases.0) ∙ so_far.values);
      owns = more_owned a b _ _ _ _ made so_far.owns c.in_ok-push.ensures.ok;
      store = made.store ∙ so_far.store;
      grows = grows_then (seen c.args.arena.now) a b so_far.grows made.grows;
    }
