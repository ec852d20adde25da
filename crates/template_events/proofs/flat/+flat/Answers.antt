use Rattle.std.proofs.Common.{◌≡◌, ℕ, ◌<◌, List, [], ◌∷◌, ◌++◌, Ok, Err, get_or, length, map as each, append_assoc, option_map, rules, sym, ap, ◌∙◌}
use Rattle.code_spec.specs.Program.{ItemKind}
use Rattle.star_tree.specs.View.{item_kind_of}
use Rattle.yaml_noted.proofs.Views.{noted_of-item}
use Rattle.yaml_noted.specs.View.{comment_of, comments_of, content_of, in_items, items_of, note_of, noted_of}
use Rattle.yaml_noted.specs.declared.noted.NotedItem.{NotedItem}
use Rattle.template_events.specs.Levels.{Part, inside, inside_item, loose_all, owner, parts_among, parts_below, start, trailing}
use Rattle.template_events.proofs.Taking.{hearing_next, hearing_stops, hears_same, hears_stopped, hears_then}
use Rattle.template_events.proofs.flat.+flat.Goals as goal

-- ---- an item among others

abbrev begin : ItemKind → (level : ℕ) → NotedItem → List Part
begin k d i = loose_all (comments_of i.before) ++ start d k (note_of i) (content_of i.content) ∷ []

abbrev whole : ItemKind → (level : ℕ) → NotedItem → List Part
whole k d i = begin k d i ++ inside_item k d (note_of i) (content_of i.content)

first_of : (k : ItemKind) (d : ℕ) (i : NotedItem) (is : List NotedItem) → parts_among k d (items_of (i ∷ is)) ≡ whole k d i ++ parts_among k d (items_of is)
first_of k d i is =
    ap (λ n. parts_among k d (in_items (n ∷ each noted_of is))) (noted_of-item i)
    ∙ ap (λ l. l ++ parts_among k d (items_of is)) (sym (append_assoc (loose_all (comments_of i.before)) (start d k (note_of i) (content_of i.content) ∷ []) (inside_item k d (note_of i) (content_of i.content))))

pub hear_items-returns-in_err-hear_begin : goal.hear_items-returns-in_err-hear_begin
hear_items-returns-in_err-hear_begin t c = λ r reads rest.
    let k = item_kind_of c.args.kind in
    let stops : c.from_residual.result ≡ Err c.in_err-hear_begin.field-0.0 = search rules in
    let within : c.loop-item.item-index < length c.args.items.now = search rules in
    let member : c.item-item.result ≡ get_or c.args.items.now c.loop-item.item-index c.item-item.result = search rules in
    rw stops
    (hearing_stops c.args.setting (λ is. parts_among k c.args.level (items_of is)) (whole k c.args.level) (first_of k c.args.level) c.args.items.now c.args.hearing.now c.loop-item.hearing c.loop-item.item-index c.item-item.result within member
    c.loop-item.invariant c.hear_begin.new.hearing c.hear_begin.new.hearing c.in_err-hear_begin.field-0.0
    (hears_stopped c.args.setting (begin k c.args.level c.item-item.result) (inside_item k c.args.level (note_of c.item-item.result) (content_of c.item-item.result.content)) c.loop-item.hearing c.hear_begin.new.hearing c.hear_begin.new.hearing
    c.in_err-hear_begin.field-0.0 c.in_err-hear_begin.ensures)
    r reads rest)

pub hear_items-returns-in_err-hear_inside : goal.hear_items-returns-in_err-hear_inside
hear_items-returns-in_err-hear_inside t c = λ r reads rest.
    let k = item_kind_of c.args.kind in
    let stops : c.from_residual-in_err-hear_inside.result ≡ Err c.in_err-hear_inside.field-0.0 = search rules in
    let within : c.loop-item.item-index < length c.args.items.now = search rules in
    let member : c.item-item.result ≡ get_or c.args.items.now c.loop-item.item-index c.item-item.result = search rules in
    rw stops
    (hearing_stops c.args.setting (λ is. parts_among k c.args.level (items_of is)) (whole k c.args.level) (first_of k c.args.level) c.args.items.now c.args.hearing.now c.loop-item.hearing c.loop-item.item-index c.item-item.result within member
    c.loop-item.invariant c.hear_inside.new.hearing c.hear_inside.new.hearing c.in_err-hear_inside.field-0.0
    (hears_then c.args.setting (begin k c.args.level c.item-item.result) (inside_item k c.args.level (note_of c.item-item.result) (content_of c.item-item.result.content)) c.loop-item.hearing c.hear_begin.new.hearing c.hear_inside.new.hearing
    (Err c.in_err-hear_inside.field-0.0) c.in_ok-hear_begin.ensures c.in_err-hear_inside.ensures)
    r reads rest)

pub hear_items-loop-item-preserved : goal.hear_items-loop-item-preserved
hear_items-loop-item-preserved t c =
    let k = item_kind_of c.args.kind in
    let within : c.loop-item.item-index < length c.args.items.now = search rules in
    let member : c.item-item.result ≡ get_or c.args.items.now c.loop-item.item-index c.item-item.result = search rules in
    hearing_next c.args.setting (λ is. parts_among k c.args.level (items_of is)) (whole k c.args.level) (first_of k c.args.level) c.args.items.now c.args.hearing.now c.loop-item.hearing c.loop-item.item-index c.item-item.result within member
    c.loop-item.invariant c.hear_inside.new.hearing
    (hears_then c.args.setting (begin k c.args.level c.item-item.result) (inside_item k c.args.level (note_of c.item-item.result) (content_of c.item-item.result.content)) c.loop-item.hearing c.hear_begin.new.hearing c.hear_inside.new.hearing
    (Ok tt) c.in_ok-hear_begin.ensures c.in_ok-hear_inside.ensures)

-- ---- what an item holds, and its comment

pub hear_inside-returns-in_err-hear_below : goal.hear_inside-returns-in_err-hear_below
hear_inside-returns-in_err-hear_below t c = λ r reads rest.
    let x = content_of c.args.item.now.content in
    let below = parts_below c.args.level x in
    let comment = trailing (owner c.args.level (item_kind_of c.args.kind) x) (option_map comment_of c.args.item.now.trailing) in
    let stops : c.from_residual.result ≡ Err c.in_err-hear_below.field-0.0 = search rules in
    rw stops
    (hears_same c.args.setting (below ++ comment) (inside_item (item_kind_of c.args.kind) c.args.level (note_of c.args.item.now) x) c.args.hearing.now c.hear_below.new.hearing (Err c.in_err-hear_below.field-0.0)
    (ap (λ b. inside b comment below) (sym c.comes_behind.ensures ∙ c.if-comes_behind.true))
    (hears_stopped c.args.setting below comment c.args.hearing.now c.hear_below.new.hearing c.hear_below.new.hearing c.in_err-hear_below.field-0.0 c.in_err-hear_below.ensures)
    r reads rest)

pub hear_inside-returns-in_err-hear_trailing : goal.hear_inside-returns-in_err-hear_trailing
hear_inside-returns-in_err-hear_trailing t c = λ r reads rest.
    let x = content_of c.args.item.now.content in
    let below = parts_below c.args.level x in
    let comment = trailing (owner c.args.level (item_kind_of c.args.kind) x) (option_map comment_of c.args.item.now.trailing) in
    let stops : c.from_residual-in_err-hear_trailing.result ≡ Err c.in_err-hear_trailing.field-0.0 = search rules in
    rw stops
    (hears_same c.args.setting (comment ++ below) (inside_item (item_kind_of c.args.kind) c.args.level (note_of c.args.item.now) x) c.args.hearing.now c.hear_trailing-else-comes_behind.new.hearing (Err c.in_err-hear_trailing.field-0.0)
    (ap (λ b. inside b comment below) (sym c.comes_behind.ensures ∙ c.if-comes_behind.false))
    (hears_stopped c.args.setting comment below c.args.hearing.now c.hear_trailing-else-comes_behind.new.hearing c.hear_trailing-else-comes_behind.new.hearing c.in_err-hear_trailing.field-0.0 c.in_err-hear_trailing.ensures)
    r reads rest)
