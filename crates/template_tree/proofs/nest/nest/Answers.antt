use Rattle.std.proofs.Common.{rules}
use Rattle.template_tree.proofs.Nesting.{nesting_ends, nesting_goes_on, nesting_starts}
use Rattle.star_tree.specs.View.{item_kind_of}
use Rattle.template_tree.proofs.nest.nest.Goals as goal

pub loop-part-init : goal.loop-part-init
loop-part-init c = nesting_starts c.args.file (item_kind_of c.args.kind) c.args.parts.items _ _ c.reverse.ensures.items c.new.ensures.items

pub loop-part-preserved : goal.loop-part-preserved
loop-part-preserved c = nesting_goes_on c.args.file (item_kind_of c.args.kind) c.args.parts.items _ _ _ _ _ c.loop-part.invariant c.in-Some.ensures.items c.in_ok-nest_part.ensures

pub returns : goal.returns
returns c = nesting_ends c.args.file (item_kind_of c.args.kind) c.args.parts.items _ _ c.loop-part.invariant (search rules)
