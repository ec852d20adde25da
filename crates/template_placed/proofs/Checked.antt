-- Where each statement stands where the blocks that are open in its collection let it, the collection's items are as placed ones.
use Rattle.std.proofs.Common.{◌≡◌, ℕ, Bool, true, false, not, ◌||◌, ◌==◌, if◌then◌else◌, List, [], ◌∷◌, drop, Option, Some, None, refl, sym, ◌∙◌, ap, subst}
use Rattle.std.specs.Bool.{IsTrue}
use Rattle.std.specs.List.{list_any}
use Rattle.ytt_base.specs.declared.fault.Place.{Place}
use Rattle.ytt_base.specs.Outcomes.{place_at}
use Rattle.code_spec.specs.Code.{Expr, Statement, load, return, break, continue}
use Rattle.code_spec.specs.CodeReading.{Header, if_header, for_header, def_header}
use Rattle.code_spec.specs.Program.{ItemKind, Instruction, statement}
use Rattle.template_spec.specs.Comments.{statements, opens, elif, otherwise, closes}
use Rattle.template_spec.specs.Nesting.{Nested, broken, at_top, inside, Part, a_node, a_mark, around_one, block_of, last_branch, nest, next_branch, open_block, put, put_block, put_statements, whole}
use Rattle.template_spec.specs.Template.{Item, node, code, if_block, for_block, def_block, Items, no_items, an_item, Branches, no_branch, else_branch, elif_branch, Content, written_value, value_from, pairs, elements, is_node, has_nodes, branches_have_nodes}
use Rattle.template_spec.specs.WellNested.{Ways, in_a_node, in_a_branch, in_a_loop, in_a_function, stands}
use Rattle.template_placed.specs.Kinded.{StandingItem, StandingItems, StandingBranches, StandingContent}

-- ---- more ways let more statements stand

-- a function's ways, by whether it may be returned from
abbrev pub in_a_def : (may_return : Bool) → Ways
in_a_def z = record { may_return = z; may_break = false; may_load = false }

abbrev pub Within : Ways → Ways → Type 0
Within v w = (IsTrue v.may_return → IsTrue w.may_return) × (IsTrue v.may_break → IsTrue w.may_break) × (IsTrue v.may_load → IsTrue w.may_load)

stands_more : (v w : Ways) (s : Statement) → Within v w → IsTrue (stands v s) → IsTrue (stands w s)
stands_more v w (return p e) h g = h.0 g
stands_more v w (break p) h g = h.1 g
stands_more v w (continue p) h g = h.1 g
stands_more v w (load p path xs) h g = h.2 g
stands_more v w s h g = refl

mutual
  item_more : (v w : Ways) (i : Item) → Within v w → StandingItem v i → StandingItem w i
  item_more v w (node p k ns key c) h g = content_more v w c h g
  item_more v w (code s) h g = stands_more v w s h g
  item_more v w (if_block p e body more) h g =
      (items_more (in_a_branch v) (in_a_branch w) body (h.0, h.1, λ x. x) g.0, branches_more (in_a_branch v) (in_a_branch w) more (h.0, h.1, λ x. x) g.1)
  item_more v w (for_block p x e body) h g = items_more (in_a_loop v) (in_a_loop w) body (h.0, (λ x. x), λ x. x) g
  item_more v w (def_block p number x ps k body) h g = g

  items_more : (v w : Ways) (is : Items) → Within v w → StandingItems v is → StandingItems w is
  items_more v w no_items h g = tt
  items_more v w (an_item i is) h g = (item_more v w i h g.0, items_more v w is h g.1)

  branches_more : (v w : Ways) (bs : Branches) → Within v w → StandingBranches v bs → StandingBranches w bs
  branches_more v w no_branch h g = tt
  branches_more v w (else_branch p body) h g = items_more v w body h g
  branches_more v w (elif_branch p e body more) h g = (items_more v w body h g.0, branches_more v w more h g.1)

  content_more : (v w : Ways) (c : Content) → Within v w → StandingContent v c → StandingContent w c
  content_more v w (written_value x) h g = tt
  content_more v w (value_from e) h g = tt
  content_more v w (pairs is) h g = items_more (in_a_node v) (in_a_node w) is ((λ x. x), (λ x. x), h.2) g
  content_more v w (elements is) h g = items_more (in_a_node v) (in_a_node w) is ((λ x. x), (λ x. x), h.2) g

-- ---- blocks of a collection

-- a block that is open in its collection, innermost first: its head, whether it holds for one item, which has not begun, and how many
-- events stand before it
pub record Frame : Type 0 where
  pub header : Header
  pub for_one : Bool
  pub before : ℕ

-- behind an item those for one item are gone
abbrev pub kept : List Frame → List Frame
kept [] = []
kept (f ∷ fs) = if f.for_one then kept fs else f ∷ kept fs

abbrev pub AllStay : List Frame → Type 0
AllStay [] = Unit {0}
AllStay (f ∷ fs) = (f.for_one ≡ false) × AllStay fs

pub all_kept : (fs : List Frame) → AllStay fs → kept fs ≡ fs
all_kept [] h = refl
all_kept (f ∷ fs) h = ap (λ (b : Bool). if b then kept fs else f ∷ kept fs) h.0 ∙ ap (λ (gs : List Frame). f ∷ gs) (all_kept fs h.1)

-- the functions that hold items, by the events before them
module _ (holders : List ℕ) where
  abbrev pub is_holder : ℕ → Bool
  is_holder n = list_any (λ h. h == n) holders

  abbrev pub header_ways : Header → (before : ℕ) → Ways → Ways
  header_ways (if_header e) n w = in_a_branch w
  header_ways (for_header x e) n w = in_a_loop w
  header_ways (def_header x ps) n w = in_a_def (not (is_holder n))
  header_ways h n w = w

  abbrev pub ways_within : Ways → List Frame → Ways
  ways_within w [] = w
  ways_within w (f ∷ fs) = header_ways f.header f.before (ways_within w fs)

  -- an innermost function holds items
  abbrev pub HeldBy : Header → (before : ℕ) → Type 0 → Type 0
  HeldBy (def_header x ps) n outer = IsTrue (is_holder n)
  HeldBy h n outer = outer

  abbrev pub Holding : List Frame → Type 0
  Holding [] = Unit {0}
  Holding (f ∷ fs) = HeldBy f.header f.before (Holding fs)

  module _ (w : Ways) where
    -- ---- items within blocks

    abbrev pub Good : List Frame → Item → Type 0
    Good fs i = StandingItem (ways_within w fs) i × (is_node i ≡ true → Holding fs)

    abbrev GoodItems : List Frame → Items → Type 0
    GoodItems fs no_items = Unit {0}
    GoodItems fs (an_item i is) = Good fs i × GoodItems fs is

    abbrev GoodBranches : List Frame → Branches → Type 0
    GoodBranches fs no_branch = Unit {0}
    GoodBranches fs (else_branch p is) = GoodItems fs is
    GoodBranches fs (elif_branch p e is more) = GoodItems fs is × GoodBranches fs more

    -- the first item stands in these blocks, and the others in those that stay
    abbrev FirstGood : (first stay : List Frame) → Items → Type 0
    FirstGood fs gs no_items = Unit {0}
    FirstGood fs gs (an_item i is) = Good fs i × GoodItems gs is

    abbrev GoodNested : (first stay : List Frame) → Nested → Type 0
    GoodNested fs gs broken = Unit {0}
    GoodNested fs [] (at_top is) = FirstGood fs [] is
    GoodNested fs (g ∷ gs) (at_top is) = Unit {0}
    GoodNested fs [] (inside is more outer) = Unit {0}
    GoodNested fs (g ∷ gs) (inside is more outer) = FirstGood fs (g ∷ gs) is × GoodBranches (g ∷ gs) more × GoodNested gs gs outer

    all_good : (gs : List Frame) (is : Items) → FirstGood gs gs is → GoodItems gs is
    all_good gs no_items h = tt
    all_good gs (an_item i is) h = h

    first_good : (gs : List Frame) (is : Items) → GoodItems gs is → FirstGood gs gs is
    first_good gs no_items h = tt
    first_good gs (an_item i is) h = h

    good_stands : (fs : List Frame) (is : Items) → GoodItems fs is → StandingItems (ways_within w fs) is
    good_stands fs no_items h = tt
    good_stands fs (an_item i is) h = (h.0.0, good_stands fs is h.1)

    branches_stand : (fs : List Frame) (bs : Branches) → GoodBranches fs bs → StandingBranches (ways_within w fs) bs
    branches_stand fs no_branch h = tt
    branches_stand fs (else_branch p is) h = good_stands fs is h
    branches_stand fs (elif_branch p e is more) h = (good_stands fs is h.0, branches_stand fs more h.1)

    either_holds : (a b : Bool) (P : Type 0) → (a ≡ true → P) → (b ≡ true → P) → (a || b) ≡ true → P
    either_holds true b P h k e = h refl
    either_holds false b P h k e = k e

    nodes_held : (fs : List Frame) (is : Items) → GoodItems fs is → has_nodes is ≡ true → Holding fs
    nodes_held fs no_items h e = cc e
    nodes_held fs (an_item i is) h e = either_holds (is_node i) (has_nodes is) (Holding fs) h.0.1 (nodes_held fs is h.1) e

    branches_held : (fs : List Frame) (bs : Branches) → GoodBranches fs bs → branches_have_nodes bs ≡ true → Holding fs
    branches_held fs no_branch h e = cc e
    branches_held fs (else_branch p is) h e = nodes_held fs is h e
    branches_held fs (elif_branch p e is more) h f = either_holds (has_nodes is) (branches_have_nodes more) (Holding fs) (nodes_held fs is h.0) (branches_held fs more h.1) f

    -- ---- what is read from the end of a collection

    good_whole : (n : Nested) → GoodNested [] [] n → StandingItems w (whole n)
    good_whole broken h = tt
    good_whole (at_top is) h = good_stands [] is (all_good [] is h)
    good_whole (inside is more outer) h = tt

    good_put : (fs gs : List Frame) (i : Item) (n : Nested) → Good fs i → GoodNested gs gs n → GoodNested fs gs (put i n)
    good_put fs gs i broken h g = tt
    good_put fs [] i (at_top is) h g = (h, all_good [] is g)
    good_put fs (x ∷ gs) i (at_top is) h g = tt
    good_put fs [] i (inside is more outer) h g = tt
    good_put fs (x ∷ gs) i (inside is more outer) h g = ((h, all_good (x ∷ gs) is g.0), g.1, g.2)

    abbrev pub AllStand : List Frame → List Instruction → Type 0
    AllStand fs [] = Unit {0}
    AllStand fs (statement s ∷ is) = IsTrue (stands (ways_within w fs) s) × AllStand fs is
    AllStand fs (i ∷ is) = AllStand fs is

    good_statements : (fs : List Frame) (is : List Instruction) (n : Nested) → AllStand fs is → GoodNested fs fs n → GoodNested fs fs (put_statements is n)
    good_statements fs [] n h g = g
    good_statements fs (statement s ∷ is) n h g = good_put fs fs (code s) (put_statements is n) (h.0, λ e. cc e) (good_statements fs is n h.1 g)
    good_statements fs (i ∷ is) n h g = good_statements fs is n h g

    -- a function's body, by whether it holds items
    body_stands : (kind : ItemKind) (is : Items) (held has : Bool) → (has ≡ true → IsTrue held) → StandingItems (in_a_def (not held)) is →
        StandingItems (in_a_function (if has then Some kind else None)) is
    body_stands kind is held true h g = let e : held ≡ true = h refl in subst (λ (b : Bool). StandingItems (in_a_def (not b)) is) e g
    body_stands kind is true false h g = items_more (in_a_def false) (in_a_def true) is ((λ x. refl), (λ x. x), λ x. x) g
    body_stands kind is false false h g = g

    module _ (kind : ItemKind) (p : Place) where
      abbrev framed : Header → Bool → ℕ → Frame
      framed h z n = record { header = h; for_one = z; before = n }

      -- what a block's head makes of what it holds
      abbrev GoodBlock : List Frame → Option Item → Type 0
      GoodBlock fs None = Unit {0}
      GoodBlock fs (Some i) = Good fs i

      good_block : (fs : List Frame) (h : Header) (z : Bool) (n : ℕ) (is : Items) (more : Branches) → GoodItems (framed h z n ∷ fs) is → GoodBranches (framed h z n ∷ fs) more → GoodBlock fs (block_of kind p h is more)
      good_block fs (if_header e) z n is more a b = (
        (good_stands (framed (if_header e) z n ∷ fs) is a, branches_stand (framed (if_header e) z n ∷ fs) more b),
        λ f. either_holds (has_nodes is) (branches_have_nodes more) (Holding fs) (nodes_held (framed (if_header e) z n ∷ fs) is a) (branches_held (framed (if_header e) z n ∷ fs) more b) f,
      )
      good_block fs (for_header x e) z n is no_branch a b = (good_stands (framed (for_header x e) z n ∷ fs) is a, nodes_held (framed (for_header x e) z n ∷ fs) is a)
      good_block fs (def_header x ps) z n is no_branch a b =
          (body_stands kind is (is_holder n) (has_nodes is) (nodes_held (framed (def_header x ps) z n ∷ fs) is a) (good_stands (framed (def_header x ps) z n ∷ fs) is a), λ f. cc f)
      good_block fs h z n is more a b = tt

      good_put_block : (fs gs : List Frame) (o : Option Item) (n : Nested) → GoodBlock fs o → GoodNested gs gs n → GoodNested fs gs (put_block o n)
      good_put_block fs gs None n h g = tt
      good_put_block fs gs (Some i) n h g = good_put fs gs i n h g

      good_open : (gs : List Frame) (h : Header) (n : ℕ) (t : Nested) → GoodNested (framed h false n ∷ gs) (framed h false n ∷ gs) t → GoodNested gs gs (open_block kind p h t)
      good_open gs h n (inside is more outer) g =
          good_put_block gs gs (block_of kind p h is more) outer (good_block gs h false n is more (all_good (framed h false n ∷ gs) is g.0) g.1) g.2
      good_open gs h n broken g = tt
      good_open gs h n (at_top is) g = tt

      good_around : (fs gs : List Frame) (h : Header) (n : ℕ) (t : Nested) → GoodNested (framed h true n ∷ fs) gs t → GoodNested fs gs (around_one kind p h t)
      good_around fs gs h n broken g = tt
      good_around fs gs h n (at_top no_items) g = tt
      good_around fs [] h n (at_top (an_item i is)) g =
          good_put_block fs [] (block_of kind p h (an_item i no_items) no_branch) (at_top is) (good_block fs h true n (an_item i no_items) no_branch (g.0, tt) tt) (first_good [] is g.1)
      good_around fs (x ∷ gs) h n (at_top (an_item i is)) g = unseen (block_of kind p h (an_item i no_items) no_branch)
        where
          unseen : (o : Option Item) → GoodNested fs (x ∷ gs) (put_block o (at_top is))
          unseen None = tt
          unseen (Some j) = tt
      good_around fs gs h n (inside no_items more outer) g = tt
      good_around fs [] h n (inside (an_item i is) more outer) g = unseen (block_of kind p h (an_item i no_items) no_branch)
        where
          unseen : (o : Option Item) → GoodNested fs [] (put_block o (inside is more outer))
          unseen None = tt
          unseen (Some j) = tt
      good_around fs (x ∷ gs) h n (inside (an_item i is) more outer) g =
          good_put_block fs (x ∷ gs) (block_of kind p h (an_item i no_items) no_branch) (inside is more outer)
          (good_block fs h true n (an_item i no_items) no_branch (g.0.0, tt) tt) (first_good (x ∷ gs) is g.0.1, g.1, g.2)

      good_branch : (gs : List Frame) (e : Expr) (t : Nested) → GoodNested gs gs t → GoodNested gs gs (next_branch p e t)
      good_branch gs e broken g = tt
      good_branch gs e (at_top is) g = tt
      good_branch [] e (inside is more outer) g = tt
      good_branch (x ∷ gs) e (inside is more outer) g = (tt, (all_good (x ∷ gs) is g.0, g.1), g.2)

      good_last : (gs : List Frame) (t : Nested) → GoodNested gs gs t → GoodNested gs gs (last_branch p t)
      good_last gs broken g = tt
      good_last gs (at_top is) g = tt
      good_last [] (inside is no_branch outer) g = tt
      good_last (x ∷ gs) (inside is no_branch outer) g = (tt, all_good (x ∷ gs) is g.0, g.2)
      good_last gs (inside is (else_branch q js) outer) g = tt
      good_last gs (inside is (elif_branch q e js more) outer) g = tt

      good_end : (gs : List Frame) (t : Nested) → GoodNested (drop 1 gs) (drop 1 gs) t → GoodNested gs gs (inside no_items no_branch t)
      good_end [] t g = tt
      good_end (x ∷ gs) t g = (tt, tt, g)

    -- ---- the parts of a collection

    -- Each statement stands where these blocks are open, and each item; heads open further ones, which hold for one item or stay.
    abbrev pub Checked : List Frame → List Part → Type 0
    Checked fs [] = Unit {0}
    Checked fs (a_node i ∷ ps) = Good fs i × Checked (kept fs) ps
    Checked fs (a_mark l (statements is) ∷ ps) = AllStay fs × AllStand fs is × Checked fs ps
    Checked fs (a_mark l (opens h true) ∷ ps) = (n : ℕ) × Checked (record { header = h; for_one = true; before = n } ∷ fs) ps
    Checked fs (a_mark l (opens h false) ∷ ps) = AllStay fs × (n : ℕ) × Checked (record { header = h; for_one = false; before = n } ∷ fs) ps
    Checked fs (a_mark l (elif e) ∷ ps) = AllStay fs × Checked fs ps
    Checked fs (a_mark l otherwise ∷ ps) = AllStay fs × Checked fs ps
    Checked fs (a_mark l closes ∷ ps) = AllStay fs × Checked (drop 1 fs) ps
    Checked fs (a_mark l s ∷ ps) = Checked fs ps

    stay_less : (fs : List Frame) → AllStay fs → AllStay (drop 1 fs)
    stay_less [] h = tt
    stay_less (f ∷ fs) h = h.1

    -- where all stay
    as_kept : (fs : List Frame) (n : Nested) → AllStay fs → GoodNested fs (kept fs) n → GoodNested fs fs n
    as_kept fs n a g = subst (λ (gs : List Frame). GoodNested fs gs n) (all_kept fs a) g

    to_kept : (fs : List Frame) (n : Nested) → AllStay fs → GoodNested fs fs n → GoodNested fs (kept fs) n
    to_kept fs n a g = subst (λ (gs : List Frame). GoodNested fs gs n) (sym (all_kept fs a)) g

    kept_stay : (fs : List Frame) → AllStay (kept fs)
    kept_stay [] = tt
    kept_stay (f ∷ fs) = by f.for_one refl (kept_stay fs)
      where
        by : (b : Bool) → f.for_one ≡ b → AllStay (kept fs) → AllStay (if b then kept fs else f ∷ kept fs)
        by true e h = h
        by false e h = (e, h)

    good_nest : (file : ℕ) (kind : ItemKind) (fs : List Frame) (ps : List Part) → Checked fs ps → GoodNested fs (kept fs) (nest file kind ps)
    good_nest file kind fs [] h = none fs (kept fs)
      where
        none : (fs gs : List Frame) → GoodNested fs gs (at_top no_items)
        none fs [] = tt
        none fs (g ∷ gs) = tt
    good_nest file kind fs (a_node i ∷ ps) h =
        good_put fs (kept fs) i (nest file kind ps) h.0 (as_kept (kept fs) (nest file kind ps) (kept_stay fs) (good_nest file kind (kept fs) ps h.1))
    good_nest file kind fs (a_mark l (statements is) ∷ ps) h =
        to_kept fs _ h.0 (good_statements fs is (nest file kind ps) h.1 (as_kept fs (nest file kind ps) h.0 (good_nest file kind fs ps h.2)))
    good_nest file kind fs (a_mark l (opens x true) ∷ ps) h =
        good_around kind (place_at file l) fs (kept fs) x h.0 (nest file kind ps) (good_nest file kind (record { header = x; for_one = true; before = h.0 } ∷ fs) ps h.1)
    good_nest file kind fs (a_mark l (opens x false) ∷ ps) h =
        to_kept fs _ h.0
        (good_open kind (place_at file l) fs x h.1 (nest file kind ps)
        (as_kept (record { header = x; for_one = false; before = h.1 } ∷ fs) (nest file kind ps) (refl, h.0) (good_nest file kind (record { header = x; for_one = false; before = h.1 } ∷ fs) ps h.2)))
    good_nest file kind fs (a_mark l (elif e) ∷ ps) h =
        to_kept fs _ h.0 (good_branch kind (place_at file l) fs e (nest file kind ps) (as_kept fs (nest file kind ps) h.0 (good_nest file kind fs ps h.1)))
    good_nest file kind fs (a_mark l otherwise ∷ ps) h =
        to_kept fs _ h.0 (good_last kind (place_at file l) fs (nest file kind ps) (as_kept fs (nest file kind ps) h.0 (good_nest file kind fs ps h.1)))
    good_nest file kind fs (a_mark l closes ∷ ps) h =
        to_kept fs (inside no_items no_branch (nest file kind ps)) h.0
        (good_end kind (place_at file l) fs (nest file kind ps) (as_kept (drop 1 fs) (nest file kind ps) (stay_less fs h.0) (good_nest file kind (drop 1 fs) ps h.1)))
    good_nest file kind fs (a_mark l s ∷ ps) h = good_nest file kind fs ps h

    pub checked_stands : (file : ℕ) (kind : ItemKind) (ps : List Part) → Checked [] ps → StandingItems w (whole (nest file kind ps))
    checked_stands file kind ps h = good_whole (nest file kind ps) (good_nest file kind [] ps h)
