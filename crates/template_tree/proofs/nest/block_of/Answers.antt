use Rattle.star_tree.specs.View.{item_kind_of}
use Rattle.template_tree.proofs.Nesting.{def_given, def_not_given, for_given, for_not_given}
use Rattle.template_tree.proofs.nest.block_of.Goals as goal

pub returns-then-is_no_more : goal.returns-then-is_no_more
returns-then-is_no_more c = λ file. for_given file (item_kind_of c.args.kind) c.args.place _ _ _ c.args.items c.args.elifs c.args.last c.in-For.is (c.if-is_no_more.ensures file)

pub returns-in-For : goal.returns-in-For
returns-in-For c = λ file. for_not_given file (item_kind_of c.args.kind) c.args.place _ _ _ c.args.items c.args.elifs c.args.last c.in-For.is (c.if-is_no_more.ensures file)

pub returns-then-is_no_more-2 : goal.returns-then-is_no_more-2
returns-then-is_no_more-2 c = λ file. def_given file c.args.kind c.args.place _ _ _ c.args.items c.args.elifs c.args.last c.in-Def.is (c.if-is_no_more-2.ensures file)

pub returns-in-Def : goal.returns-in-Def
returns-in-Def c = λ file. def_not_given file (item_kind_of c.args.kind) c.args.place _ _ _ c.args.items c.args.elifs c.args.last c.in-Def.is (c.if-is_no_more-2.ensures file)
