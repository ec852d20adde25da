use Rattle.object_arena.proofs.Names.{sym, ap, ◌∙◌, changed, owns_kept}
use Rattle.object_arena.specs.Names.{Some, of_box, seen, slice_set, value_of, with_contents}
use Rattle.object_arena.proofs.arena.Arena.set_box.Goals as goal

pub put_back-requires-clause-owns : goal.put_back-requires-clause-owns
put_back-requires-clause-owns c = c.fill.ensures.owned (seen c.take-object.new.self) (owns_kept _ _ c.args.v c.take-object.ensures.out.grows c.requires.value)

pub returns-clause-store : goal.returns-clause-store
returns-clause-store c =
    let a = seen c.args.self.now in
    let at = c.args.at.at in
    (c.put_back.ensures a c.take-object.ensures.out).store
    ∙ ap (slice_set a.store at) (c.fill.ensures.meaning a.held)
    ∙ sym (ap (changed (with_contents (of_box (Some (value_of a c.args.v)))) a.store at) c.take-object.ensures.was)

pub returns-clause-held : goal.returns-clause-held
returns-clause-held c = (c.put_back.ensures (seen c.args.self.now) c.take-object.ensures.out).held
