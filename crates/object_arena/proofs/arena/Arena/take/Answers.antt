use Rattle.object_arena.proofs.Names.{Some, sym, ap, ◌∙◌, seen, contents_kind, object_in, owns_contents_kept, Object}
use Rattle.star_values.proofs.Slots.{contents_seen}
use Rattle.star_values.specs.Owns.{object_sort}
use Rattle.object_arena.proofs.arena.Arena.take.Goals as goal

pub object-requires : goal.object-requires
object-requires c = c.requires

pub replace-requires-clause-kind : goal.replace-requires-clause-kind
replace-requires-clause-kind c =
    ap object_sort c.object.ensures.here ∙ ap Some (contents_seen (seen c.args.self.now).held c.object.result.now.contents ∙ sym c.empty_like-empty.ensures.kind ∙ ap (λ (o : Object). contents_kind o.contents) (sym c.new.ensures))

pub replace-requires-clause-owns : goal.replace-requires-clause-owns
replace-requires-clause-owns c = rw c.new.ensures (c.empty_like-empty.ensures.owned (seen c.args.self.now))

pub returns-clause-was : goal.returns-clause-was
returns-clause-was c = c.replace.ensures.was

pub returns-clause-kind : goal.returns-clause-kind
returns-clause-kind c =
    c.replace.ensures.grows.objects c.args.at _ (ap object_sort c.replace.ensures.was ∙ ap Some (contents_seen (seen c.args.self.now).held c.replace.result.contents))

pub returns-clause-had : goal.returns-clause-had
returns-clause-had c = c.replace.ensures.owned

pub returns-clause-owned : goal.returns-clause-owned
returns-clause-owned c = owns_contents_kept _ _ _ c.replace.ensures.grows c.replace.ensures.owned

pub returns-clause-out : goal.returns-clause-out
returns-clause-out c = record { other = object_in (seen c.args.self.now).held c.new.result; store = c.replace.ensures.store; held = c.replace.ensures.held; grows = c.replace.ensures.grows }
