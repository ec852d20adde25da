use Rattle.std.proofs.Common.{[], ◌∷◌, List, Option, Ok, arith, ap, sym, ◌∙◌, refl, subst}
use Rattle.std.specs.Prelude.{option_map}
use Rattle.std.proofs.lemmas.Result.{err_from_is_err_and}
use Rattle.ytt_base.specs.Outcomes.{◌>>=◌, place_at}
use Rattle.code_spec.specs.Numbering.{number_expr}
use Rattle.code_spec.specs.Program.{part, node_start, node_value_from, node_end, begin_elif, begin_else, close}
use Rattle.star_tree.specs.View.{holds_of, item_kind_of}
use Rattle.star_tree.specs.Whole.{expr_of, instruction_of, parameters_of}
use Rattle.star_tree.specs.declared.code.Expr.{Expr}
use Rattle.star_number.proofs.Formed.{one_part}
use Rattle.template_spec.specs.Compiled.{branches_code, item_code, items_code}
use Rattle.template_spec.specs.Template.{Branches, Item, an_item, elif_branch, no_branch, no_items, value_from}
use Rattle.template_tree.specs.declared.tree.TContent.{TContent}
use Rattle.template_tree.specs.declared.tree.TElif.{TElif}
use Rattle.template_tree.specs.declared.tree.TElse.{TElse}
use Rattle.template_tree.specs.declared.tree.TItem.{TItem}
use Rattle.template_tree.specs.View.{branches_of, content_of, in_content, in_key, item_of, items_of, node_of, notes_of}
use Rattle.template_tree.proofs.Views.{branches_of-last, content_of-List, content_of-Map, else_of-else, item_of-Code, item_of-Def, item_of-For, item_of-If, item_of-Node, items_of-last, node_of-node}
use Rattle.text_template_spec.specs.TextTemplates.{texted_branches, texted_content, texted_item, texted_items}
use Rattle.template_program.specs.Emits.{EmitsBy, content_in}
use Rattle.template_program.proofs.Emitting.{emits_then}
use Rattle.template_program.proofs.Sizes.{branch_size, branches_size, content_size, item_size, taken_size}
use Rattle.template_program.proofs.TextedForms.{code_emits, def_emits, else_emits, for_emits, if_emits, node_emits}
use Rattle.template_program.proofs.Texting.{none_so_far, one_more, one_stops, the_end, the_rest}
use Rattle.template_program.proofs.program.+compile.Goals as goal

-- ---- items

pub put_items-loop-item-init : goal.put_items-loop-item-init
put_items-loop-item-init t c =
    let file = c.args.file in
    record {
      fewer = omega arith;
      so_far = λ r reads. none_so_far (texted_items r c.args.asked) items_code file (items_of file c.args.items) c.args.code.now c.args.next.now;
    }

pub put_items-loop-item-preserved : goal.put_items-loop-item-preserved
put_items-loop-item-preserved t c =
    let file = c.args.file in
    let asked = c.args.asked in
    let item = item_of file c.in-Some.item in
    let rest = items_of file c.pop.new.self in
    let left = ap (λ (is : List TItem). items_of file is) c.in-Some.ensures ∙ items_of-last file c.pop.new.self c.in-Some.item in
    record {
      fewer = let h = c.loop-item.invariant.fewer in let k = taken_size file _ c.pop.new.self c.in-Some.item c.in-Some.ensures in omega (arith, h, k);
      so_far = λ r reads.
          one_more (texted_items r asked) items_code file (items_of file c.args.items) c.args.code.now c.args.next.now (c.loop-item.invariant.so_far r reads) c.put_item.new.code c.put_item.new.next item_code (texted_item r asked item)
          (λ i is. an_item i is) rest (ap (texted_items r asked) left) (λ i is more. refl) (c.in_ok-put_item.ensures r reads);
    }

pub put_items-returns-in_err-put_item : goal.put_items-returns-in_err-put_item
put_items-returns-in_err-put_item t c =
    let file = c.args.file in
    let asked = c.args.asked in
    let item = item_of file c.in-Some.item in
    let rest = items_of file c.pop.new.self in
    let left = ap (λ (is : List TItem). items_of file is) c.in-Some.ensures ∙ items_of-last file c.pop.new.self c.in-Some.item in
    let p = err_from_is_err_and c.from_residual.result c.from_residual.ensures.1 in
    λ r reads.
    rw (p.1, p.2) (one_stops (texted_items r asked) items_code file (items_of file c.args.items) c.args.code.now c.args.next.now (c.loop-item.invariant.so_far r reads) c.loop-item.code c.put_item.new.code c.loop-item.next c.put_item.new.next item_code
    c.in_err-put_item.field-0.0 (texted_item r asked item) (λ i. texted_items r asked rest >>= (λ is. Ok (an_item i is))) (ap (texted_items r asked) left) (c.in_err-put_item.ensures r reads))

pub put_items-returns : goal.put_items-returns
put_items-returns t c =
    let file = c.args.file in
    λ r reads.
    the_end (texted_items r c.args.asked) items_code file (items_of file c.args.items) c.args.code.now c.args.next.now (c.loop-item.invariant.so_far r reads) no_items (ap (λ (is : List TItem). items_of file is) c.in_default.ensures.0) refl (λ is. refl)

-- ---- branches

pub put_branches-loop-elif-init : goal.put_branches-loop-elif-init
put_branches-loop-elif-init t c =
    let file = c.args.file in
    record {
      kept = refl;
      fewer = omega arith;
      so_far = λ r reads. none_so_far (texted_branches r c.args.asked) (branches_code (place_at file c.args.line)) file (branches_of file c.args.elifs c.args.last) c.args.code.now c.args.next.now;
    }

pub put_branches-loop-elif-preserved : goal.put_branches-loop-elif-preserved
put_branches-loop-elif-preserved t c =
    let file = c.args.file in
    let asked = c.args.asked in
    let elif = c.in-Some.elif in
    let place = place_at file elif.place.line in
    let test = expr_of file elif.test in
    let now = ap (λ (bs : List TElif). branches_of file bs c.args.last) c.in-Some.ensures ∙ branches_of-last file c.pop.new.self elif c.args.last in
    record {
      kept = c.loop-elif.invariant.kept;
      fewer = let h = c.loop-elif.invariant.fewer in let k = ap branches_size now in omega (arith, h, k);
      so_far = λ r reads.
          let body = c.in_ok-put_items.ensures r reads in
          one_more (texted_branches r asked) (branches_code (place_at file c.args.line)) file (branches_of file c.args.elifs c.args.last) c.args.code.now c.args.next.now (c.loop-elif.invariant.so_far r reads) c.put_items.new.code c.put_items.new.next
          (λ is more. begin_elif place test ∷ items_code is more) (texted_items r asked (items_of file elif.body)) (λ is m. elif_branch place test is m) (branches_of file c.pop.new.self c.args.last) (ap (texted_branches r asked) now) (λ is m more. refl)
          (body.0, body.1, emits_then c.in_ok-put_elif.ensures body.2);
    }

pub put_branches-returns-in_err-put_items : goal.put_branches-returns-in_err-put_items
put_branches-returns-in_err-put_items t c =
    let file = c.args.file in
    let asked = c.args.asked in
    let elif = c.in-Some.elif in
    let place = place_at file elif.place.line in
    let test = expr_of file elif.test in
    let more = branches_of file c.pop.new.self c.args.last in
    let now = ap (λ (bs : List TElif). branches_of file bs c.args.last) c.in-Some.ensures ∙ branches_of-last file c.pop.new.self elif c.args.last in
    let p = err_from_is_err_and c.from_residual-in_err-put_items.result c.from_residual-in_err-put_items.ensures.1 in
    λ r reads.
    rw (p.1, p.2) (one_stops (texted_branches r asked) (branches_code (place_at file c.args.line)) file (branches_of file c.args.elifs c.args.last) c.args.code.now c.args.next.now (c.loop-elif.invariant.so_far r reads)
    c.put_elif.new.code c.put_items.new.code c.put_elif.new.next c.put_items.new.next items_code c.in_err-put_items.field-0.0 (texted_items r asked (items_of file elif.body))
    (λ is. texted_branches r asked more >>= (λ m. Ok (elif_branch place test is m))) (ap (texted_branches r asked) now) (c.in_err-put_items.ensures r reads))

pub put_branches-returns : goal.put_branches-returns
put_branches-returns t c =
    let file = c.args.file in
    let asked = c.args.asked in
    let end = branches_code (place_at file c.args.line) in
    let left = ap (λ (bs : List TElif). branches_of file bs c.args.last) c.in_default.ensures.0 ∙ ap (λ (o : Option TElse). branches_of file [] o) (sym c.loop-elif.invariant.kept) in
    λ r reads.
    the_rest (texted_branches r asked) end file (branches_of file c.args.elifs c.args.last) c.args.code.now c.args.next.now (c.loop-elif.invariant.so_far r reads) c.put_else.new.code c.put_else.new.next c.put_else.result
    (subst (λ (m : Branches). EmitsBy file c.loop-elif.code c.put_else.new.code c.loop-elif.next c.put_else.new.next end c.put_else.result (texted_branches r asked m)) (sym left) (c.put_else.ensures r reads))

pub put_else-returns-in_ok-put-in-None : goal.put_else-returns-in_ok-put-in-None
put_else-returns-in_ok-put-in-None t c =
    let file = c.args.file in
    let n = c.args.next.now in
    let none = ap (λ (o : Option TElse). branches_of file [] o) c.in-None.is in
    λ r reads. (no_branch, ap (texted_branches r c.args.asked) none, c.in_ok-put-in-None.ensures file n n (close (place_at file c.args.line)) refl)

pub put_else-returns-in_ok-put-in-Some-2 : goal.put_else-returns-in_ok-put-in-Some-2
put_else-returns-in_ok-put-in-Some-2 t c =
    let file = c.args.file in
    let n = c.args.next.now in
    let k = c.put_items.new.next in
    let last = c.in-Some.field-0 in
    let place = place_at file last.place.line in
    let end = place_at file c.args.line in
    let some = ap (λ (o : Option TElse). branches_of file [] o) c.in-Some.is ∙ else_of-else file last in
    λ r reads.
    else_emits r c.args.asked file c.args.code.now c.put-in-Some-2.new.code n k end place (items_of file last.body) (branches_of file [] c.args.last) some _ _ _ _
    (c.in_ok-put-in-Some.ensures file n n (begin_else place) refl) (c.in_ok-put_items-in-Some.ensures r reads) (c.in_ok-put-in-Some-2.ensures file k k (close end) refl)

-- ---- each form of item

pub put_item-returns-in-Node : goal.put_item-returns-in-Node
put_item-returns-in-Node t c =
    let file = c.args.file in
    let form = ap (λ (i : TItem). item_of file i) c.in-Node.is ∙ item_of-Node file c.in-Node.node in
    λ r reads.
    subst (λ (i : Item). EmitsBy file c.args.code.now c.put_node.new.code c.args.next.now c.put_node.new.next item_code c.put_node.result (texted_item r c.args.asked i)) (sym form) (c.put_node.ensures r reads)

pub put_item-returns-in_ok-put_simple-in-Code : goal.put_item-returns-in_ok-put_simple-in-Code
put_item-returns-in_ok-put_simple-in-Code t c =
    let file = c.args.file in
    let form = ap (λ (i : TItem). item_of file i) c.in-Code.is ∙ item_of-Code file c.in-Code.stmt in
    λ r reads. code_emits r c.args.asked file c.args.code.now c.put_simple.new.code c.args.next.now c.put_simple.new.next (item_of file c.args.item) (instruction_of file c.in-Code.stmt) form c.in_ok-put_simple-in-Code.ensures

pub put_item-returns-in_ok-put_items-in-If : goal.put_item-returns-in_ok-put_items-in-If
put_item-returns-in_ok-put_items-in-If t c =
    let file = c.args.file in
    let block = c.in-If in
    let form = ap (λ (i : TItem). item_of file i) block.is ∙ item_of-If file block.place block.test block.body block.elifs block.last in
    λ r reads.
    if_emits r c.args.asked file c.args.code.now c.put_branches.new.code c.args.next.now c.put_branches.new.next (item_of file c.args.item) (place_at file block.place.line) (expr_of file block.test) (items_of file block.body)
    (branches_of file block.elifs block.last) form _ _ _ _ c.put_branches.result c.in_ok-put_if-in-If.ensures (c.in_ok-put_items-in-If.ensures r reads) (c.put_branches.ensures r reads)

pub put_item-returns-in_ok-put-in-For : goal.put_item-returns-in_ok-put-in-For
put_item-returns-in_ok-put-in-For t c =
    let file = c.args.file in
    let block = c.in-For in
    let place = place_at file block.place.line in
    let k = c.put_items-in-For.new.next in
    let form = ap (λ (i : TItem). item_of file i) block.is ∙ item_of-For file block.place block.target block.members block.body in
    λ r reads.
    for_emits r c.args.asked file c.args.code.now c.put.new.code c.args.next.now k (item_of file c.args.item) place (expr_of file block.target) (expr_of file block.members) (items_of file block.body) form _ _ _ _
    c.in_ok-put_for-in-For.ensures (c.in_ok-put_items-in-For.ensures r reads) (c.in_ok-put-in-For.ensures file k k (close place) refl)

pub put_item-returns-in_ok-put-in-Def : goal.put_item-returns-in_ok-put-in-Def
put_item-returns-in_ok-put-in-Def t c =
    let file = c.args.file in
    let block = c.in-Def in
    let place = place_at file block.place.line in
    let k = c.put_items-in-Def.new.next in
    let form = ap (λ (i : TItem). item_of file i) block.is ∙ item_of-Def file block.place block.name block.params block.kind block.body in
    λ r reads.
    def_emits r c.args.asked file c.args.code.now c.put-in-Def.new.code c.args.next.now k (item_of file c.args.item) place block.name (parameters_of file block.params) (item_kind_of block.kind) (items_of file block.body) form _ _ _ _
    (option_map item_kind_of c.fragment-builds.result) (c.fragment-builds.ensures file) c.in_ok-put_def-in-Def.ensures (c.in_ok-put_items-in-Def.ensures r reads) (c.in_ok-put-in-Def.ensures file k k (close place) refl)

pub put_node-returns : goal.put_node-returns
put_node-returns t c =
    let file = c.args.file in
    let node = c.args.node in
    let place = place_at file node.place.line in
    let kind = item_kind_of node.kind in
    let n = c.args.next.now in
    let k = c.put_content.new.next in
    let holds = holds_of c.holds-holds.result in
    λ r reads.
    node_emits r c.args.asked file c.args.code.now c.put-2.new.code n k (node_of file node) place kind (notes_of file node.notes) (in_key node.key) (content_in file node.value node.content) (node_of-node file node) c.asked_in-asked.result (c.asked_in-asked.ensures file)
    _ _ _ _ _ _ _ _ holds (c.holds-holds.ensures file) (c.in_ok-put.ensures file n n (part (node_start place kind holds)) refl) c.in_ok-put_notes.ensures (c.in_ok-put_key.ensures r reads) (c.in_ok-put_content.ensures r reads)
    (c.in_ok-put-2.ensures file k k (part (node_end place)) refl)

pub put_content-returns-in_ok-put-in-Some : goal.put_content-returns-in_ok-put-in-Some
put_content-returns-in_ok-put-in-Some t c =
    let place = c.args.place in
    let file = place.file in
    let value = expr_of file c.in-Some.expr in
    let given = ap (λ (o : Option Expr). in_content file o (content_of file c.args.content)) c.in-Some.is in
    λ r reads. (
      value_from value,
      ap (texted_content r c.args.asked place) given,
      c.in_ok-put-in-Some.ensures file c.args.next.now c.number_owned.new.next (part (node_value_from place value)) (one_part (λ e. part (node_value_from place e)) (number_expr value) _ _ _ c.in_ok-numbered-in-Some.ensures),
    )

-- ---- that all ends

pub put_items-put_item-requires : goal.put_items-put_item-requires
put_items-put_item-requires t c =
    let h = c.loop-item.invariant.fewer in
    let k = taken_size c.args.file _ c.pop.new.self c.in-Some.item c.in-Some.ensures in
    (omega (arith, h, k, c.decreases), tt)

pub put_node-put_content-requires : goal.put_node-put_content-requires
put_node-put_content-requires t c =
    let k = ap item_size (node_of-node c.args.file c.args.node) in
    (omega (arith, k, c.decreases), tt)

pub put_item-put_items-requires : goal.put_item-put_items-requires
put_item-put_items-requires t c =
    let k = ap (λ (i : TItem). item_size (item_of c.args.file i)) c.in-If.is ∙ ap item_size (item_of-If c.args.file _ _ _ _ _) in
    (omega (arith, k, c.decreases), tt)

pub put_item-put_branches-requires : goal.put_item-put_branches-requires
put_item-put_branches-requires t c =
    let k = ap (λ (i : TItem). item_size (item_of c.args.file i)) c.in-If.is ∙ ap item_size (item_of-If c.args.file _ _ _ _ _) in
    (omega (arith, k, c.decreases), tt)

pub put_item-put_items-requires-in-For : goal.put_item-put_items-requires-in-For
put_item-put_items-requires-in-For t c =
    let k = ap (λ (i : TItem). item_size (item_of c.args.file i)) c.in-For.is ∙ ap item_size (item_of-For c.args.file _ _ _ _) in
    (omega (arith, k, c.decreases), tt)

pub put_item-put_items-requires-in-Def : goal.put_item-put_items-requires-in-Def
put_item-put_items-requires-in-Def t c =
    let k = ap (λ (i : TItem). item_size (item_of c.args.file i)) c.in-Def.is ∙ ap item_size (item_of-Def c.args.file _ _ _ _ _) in
    (omega (arith, k, c.decreases), tt)

pub put_branches-put_items-requires : goal.put_branches-put_items-requires
put_branches-put_items-requires t c =
    let h = c.loop-elif.invariant.fewer in
    let k = branch_size c.args.file c.loop-elif.elifs c.pop.new.self c.in-Some.elif c.args.last c.in-Some.ensures in
    (omega (arith, h, k, c.decreases), tt)

pub put_branches-put_else-requires : goal.put_branches-put_else-requires
put_branches-put_else-requires t c =
    let h = c.loop-elif.invariant.fewer in
    let k = ap (λ (bs : List TElif). branches_size (branches_of c.args.file bs c.args.last)) c.in_default.ensures.0 in
    let last = ap (λ (o : Option TElse). branches_size (branches_of c.args.file [] o)) c.loop-elif.invariant.kept in
    (omega (arith, h, k, last, c.decreases), tt)

pub put_else-put_items-requires : goal.put_else-put_items-requires
put_else-put_items-requires t c =
    let k = ap (λ (o : Option TElse). branches_size (branches_of c.args.file [] o)) c.in-Some.is ∙ ap branches_size (else_of-else c.args.file _) in
    (omega (arith, k, c.decreases), tt)

pub put_written-put_items-requires : goal.put_written-put_items-requires
put_written-put_items-requires t c =
    let k = ap (λ (x : TContent). content_size (content_of c.args.place.file x)) c.in-Map.is ∙ ap content_size (content_of-Map c.args.place.file _) in
    (omega (arith, k, c.decreases), tt)

pub put_written-put_items-requires-in-List : goal.put_written-put_items-requires-in-List
put_written-put_items-requires-in-List t c =
    let k = ap (λ (x : TContent). content_size (content_of c.args.place.file x)) c.in-List.is ∙ ap content_size (content_of-List c.args.place.file _) in
    (omega (arith, k, c.decreases), tt)
