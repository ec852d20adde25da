-- The events of a text are in order: an outer item before an inner one, and each the next one of its collection.
use Rattle.std.proofs.Common.{◌≡◌, ℕ, suc, ◌≤◌, Bool, true, false, if◌then◌else◌, List, [], ◌∷◌, ◌++◌, length, get_or, bytes_eq, Option, Some, None, Ok, refl, sym, ◌∙◌, ap, arith}
use Rattle.std.specs.Bool.{IsTrue}
use Rattle.std.specs.Result.{IfOk}
use Rattle.std.proofs.lemmas.Result.{IfOk-at_ok}
use Rattle.std.proofs.lemmas.List.{append_assoc}
use Rattle.std.proofs.lemmas.Slice.Eq.{bytes_eq-Decides}
use Rattle.ytt_base.specs.Outcomes.{place_at}
use Rattle.ytt_laws.proofs.Yielded.{yielded_behind, yielded_then}
use Rattle.yaml_spec.specs.Noted.{Comment, Note, Content, noted_scalar, noted_list, noted_map, Items, no_items, item, Documents}
use Rattle.code_spec.specs.CodeReading.{CodeReader}
use Rattle.code_spec.specs.Program.{ItemKind, document_item, pair_item, element_item}
use Rattle.template_spec.specs.Comments.{Said, ignored, comment_said}
use Rattle.template_spec.specs.Events.{Path, Raw, begun, trails, loose, loose_all, trailing, comes_behind, is_collection, raw_items, raw_below, raw_text, Waiting, none_waits, waits, then_come, is_later, by_line, Held, nothing, held, held_trailing, let_go, goes_on, grown, gathered, Event, begins, beside, says, spoken, heard, events}
use Rattle.template_spec.specs.OpenBlocks.{collection_of, lies_in, so_far}
use Rattle.template_pass.specs.Orderly.{Orderly}
use Rattle.template_pass.proofs.Paths.{In, in_itself, in_below, in_length, lies, same_by_length}

-- ---- the items alone

abbrev counted : Path → List Path → ℕ
counted c [] = 0
counted c (p ∷ ps) = if bytes_eq (collection_of p) c then suc (counted c ps) else counted c ps

abbrev InOrder : (last : Path) → (past : List Path) → List Path → Type 0
InOrder q past [] = Unit {0}
InOrder q past (p ∷ ps) = IsTrue (lies_in q (collection_of p)) × (p ≡ counted (collection_of p) past ∷ collection_of p) × InOrder p (p ∷ past) ps

abbrev pub begun_in : List Raw → List Path
begun_in [] = []
begun_in (begun p k l ∷ xs) = p ∷ begun_in xs
begun_in (trails p k b c ∷ xs) = begun_in xs
begun_in (loose c ∷ xs) = begun_in xs

abbrev pub begun_by : List Event → List Path
begun_by [] = []
begun_by (begins p k l ∷ es) = p ∷ begun_by es
begun_by (beside p k b l s ∷ es) = begun_by es
begun_by (says l s ∷ es) = begun_by es

counted_by : (c : Path) (past : List Event) → counted c (begun_by past) ≡ so_far c past
counted_by c [] = refl
counted_by c (begins p k l ∷ es) = ap (λ n. if bytes_eq (collection_of p) c then suc n else n) (counted_by c es)
counted_by c (beside p k b l s ∷ es) = counted_by c es
counted_by c (says l s ∷ es) = counted_by c es

orderly_by : (q : Path) (past es : List Event) → InOrder q (begun_by past) (begun_by es) → Orderly q past es
orderly_by q past [] h = tt
orderly_by q past (begins p k l ∷ es) h = (h.0, h.1 ∙ ap (λ n. n ∷ collection_of p) (counted_by (collection_of p) past), orderly_by p (begins p k l ∷ past) es h.2)
orderly_by q past (beside p k b l s ∷ es) h = orderly_by q (beside p k b l s ∷ past) es h
orderly_by q past (says l s ∷ es) h = orderly_by q (says l s ∷ past) es h

-- ---- the order of lines, gathering and hearing keep the items in their order

begun_come : (w : Waiting) (xs : List Raw) → begun_in (then_come w xs) ≡ begun_in xs
begun_come none_waits xs = refl
begun_come (waits p k b c) xs = refl

begun_if : (b : Bool) (xs ys : List Raw) (ps : List Path) → begun_in xs ≡ ps → begun_in ys ≡ ps → begun_in (if b then xs else ys) ≡ ps
begun_if true xs ys ps h k = h
begun_if false xs ys ps h k = k

begun_by_line : (w : Waiting) (xs : List Raw) → begun_in (by_line w xs) ≡ begun_in xs
begun_by_line w [] = begun_come w []
begun_by_line w (begun p k l ∷ xs) = begun_come w (begun p k l ∷ by_line none_waits xs) ∙ ap (λ ps. p ∷ ps) (begun_by_line none_waits xs)
begun_by_line w (trails p k b c ∷ xs) = begun_come w (by_line (waits p k b c) xs) ∙ begun_by_line (waits p k b c) xs
begun_by_line w (loose d ∷ xs) =
    begun_if (is_later w d) (loose d ∷ by_line w xs) (then_come w (loose d ∷ by_line none_waits xs)) (begun_in xs)
    (begun_by_line w xs) (begun_come w (loose d ∷ by_line none_waits xs) ∙ begun_by_line none_waits xs)

begun_let_go : (h : Held) (xs : List Raw) → begun_in (let_go h xs) ≡ begun_in xs
begun_let_go nothing xs = refl
begun_let_go (held c l) xs = refl
begun_let_go (held_trailing p k b c l) xs = refl

begun_either : (b : Bool) (xs ys : List Raw) (ps : List Path) → begun_in xs ≡ ps → begun_in ys ≡ ps → begun_in (elim b as (λ _. List Raw) [ true ↦ xs | false ↦ ys ]) ≡ ps
begun_either true xs ys ps h k = h
begun_either false xs ys ps h k = k

begun_gathered : (r : CodeReader) (file : ℕ) (h : Held) (xs : List Raw) → begun_in (gathered r file h xs) ≡ begun_in xs
begun_gathered r file h [] = begun_let_go h []
begun_gathered r file h (begun p k l ∷ xs) = begun_let_go h (begun p k l ∷ gathered r file nothing xs) ∙ ap (λ ps. p ∷ ps) (begun_gathered r file nothing xs)
begun_gathered r file h (trails p k b c ∷ xs) = begun_let_go h (gathered r file (held_trailing p k b c c.line) xs) ∙ begun_gathered r file (held_trailing p k b c c.line) xs
begun_gathered r file h (loose c ∷ xs) =
    begun_either (goes_on r file h c) (gathered r file (grown h c) xs) (let_go h (gathered r file (held c c.line) xs)) (begun_in xs)
    (begun_gathered r file (grown h c) xs) (begun_let_go h (gathered r file (held c c.line) xs) ∙ begun_gathered r file (held c c.line) xs)

begun_beside : (p : Path) (k : ItemKind) (b : Bool) (l : ℕ) (s : Said) (es : List Event) → begun_by (spoken s (beside p k b l) es) ≡ begun_by es
begun_beside p k b l ignored es = refl
begun_beside p k b l s es = refl

begun_says : (l : ℕ) (s : Said) (es : List Event) → begun_by (spoken s (says l) es) ≡ begun_by es
begun_says l ignored es = refl
begun_says l s es = refl

abbrev Same : List Raw → List Event → Type 0
Same xs es = begun_by es ≡ begun_in xs

begun_heard : (r : CodeReader) (ignore : Bool) (file : ℕ) (xs : List Raw) → IfOk (heard r ignore file xs) (Same xs)
begun_heard r ignore file [] = refl
begun_heard r ignore file (begun p k l ∷ xs) =
    yielded_then (Same xs) (Same (begun p k l ∷ xs)) (heard r ignore file xs) _ (begun_heard r ignore file xs) (λ es e. ap (λ ps. p ∷ ps) e)
begun_heard r ignore file (trails p k b c ∷ xs) =
    yielded_behind (Same xs) (comment_said r ignore (place_at file c.line) c) _ (λ s.
    yielded_then (Same xs) (Same xs) (heard r ignore file xs) _ (begun_heard r ignore file xs) (λ es e. begun_beside p k b c.line s es ∙ e))
begun_heard r ignore file (loose c ∷ xs) =
    yielded_behind (Same xs) (comment_said r ignore (place_at file c.line) c) _ (λ s.
    yielded_then (Same xs) (Same xs) (heard r ignore file xs) _ (begun_heard r ignore file xs) (λ es e. begun_says c.line s es ∙ e))

-- ---- the items of a text are in order

pub begun_loose : (cs : List Comment) (xs : List Raw) → begun_in (loose_all cs xs) ≡ begun_in xs
begun_loose [] xs = refl
begun_loose (c ∷ cs) xs = begun_loose cs xs

pub begun_trailing : (p : Path) (k : ItemKind) (b : Bool) (t : Option Comment) (xs : List Raw) → begun_in (trailing p k b t xs) ≡ begun_in xs
begun_trailing p k b None xs = refl
begun_trailing p k b (Some c) xs = refl

counted_here : (n : ℕ) (c : Path) (ps : List Path) → counted c ((n ∷ c) ∷ ps) ≡ suc (counted c ps)
counted_here n c ps = let e : bytes_eq c c ≡ true = (bytes_eq-Decides c c).1 refl in rw e refl

counted_other : (n : ℕ) (c d : Path) (ps : List Path) → (c ≡ d → ⊥) → counted d ((n ∷ c) ∷ ps) ≡ counted d ps
counted_other n c d ps h = by_test (bytes_eq c d) refl
  where
    by_test : (b : Bool) → bytes_eq c d ≡ b → (if b then suc (counted d ps) else counted d ps) ≡ counted d ps
    by_test true e = absurd (h ((bytes_eq-Decides c d).0 e))
    by_test false e = refl

-- none of a collection's items from this number on has begun, nor any below
abbrev Unbegun : Path → ℕ → List Path → Type 0
Unbegun c n ps = (m : ℕ) (e : Path) → n ≤ m → counted (e ++ m ∷ c) ps ≡ 0

-- the same have begun outside a collection
abbrev Outside : Path → (ps qs : List Path) → Type 0
Outside c ps qs = (d : Path) → (In d c → ⊥) → counted d qs ≡ counted d ps

-- what follows a collection is in order behind all that may have begun in it
abbrev Follows : Path → List Path → List Path → Type 0
Follows c ps rest = (q : Path) (qs : List Path) → In q c → Outside c ps qs → InOrder q qs rest

abbrev Ordered : Path → ℕ → (List Raw → List Raw) → Type 0
Ordered c n raws = (q : Path) (ps : List Path) (rest : List Raw) → In q c → counted c ps ≡ n → Unbegun c n ps → Follows c ps (begun_in rest) → InOrder q ps (begun_in (raws rest))

number_same : (n m : ℕ) (c d : Path) → n ∷ c ≡ m ∷ d → n ≡ m
number_same n m c d e = ap (λ p. get_or p 0 0) e

not_in_longer : (n : ℕ) (c : Path) → In c (n ∷ c) → ⊥
not_in_longer n c h = let l : suc (length c) ≤ length c = in_length c (n ∷ c) h in omega (arith, l)

not_below : (m : ℕ) (e c : Path) → c ≡ e ++ m ∷ c → ⊥
not_below m e c h = not_in_longer m c (e, h)

not_in_other : (n m : ℕ) (e c : Path) → suc n ≤ m → In (e ++ m ∷ c) (n ∷ c) → ⊥
not_in_other n m e c le h =
    let same : m ≡ n = number_same m n c c (same_by_length (e ++ m ∷ c) (m ∷ c) (n ∷ c) (e, refl) h refl) in
    omega (arith, same, le)

-- what holds behind the beginning of an item, and behind all that stands in it
module _ (n : ℕ) (c : Path) (ps : List Path) where
  unbegun_in : Unbegun c n ps → Unbegun (n ∷ c) 0 ((n ∷ c) ∷ ps)
  unbegun_in u m e le =
      let longer : e ++ m ∷ n ∷ c ≡ (e ++ m ∷ []) ++ n ∷ c = sym (append_assoc e (m ∷ []) (n ∷ c)) in
      ap (λ d. counted d ((n ∷ c) ∷ ps)) longer ∙ counted_other n c ((e ++ m ∷ []) ++ n ∷ c) ps (λ h. not_below n (e ++ m ∷ []) c h) ∙ u n (e ++ m ∷ []) (omega arith)

  counted_in : Unbegun c n ps → counted (n ∷ c) ((n ∷ c) ∷ ps) ≡ 0
  counted_in u = counted_other n c (n ∷ c) ps (λ h. not_below n [] c h) ∙ u n [] (omega arith)

  module _ (qs : List Path) (o : Outside (n ∷ c) ((n ∷ c) ∷ ps) qs) where
    counted_behind : counted c ps ≡ n → counted c qs ≡ suc n
    counted_behind e = o c (not_in_longer n c) ∙ counted_here n c ps ∙ ap suc e

    unbegun_behind : Unbegun c n ps → Unbegun c (suc n) qs
    unbegun_behind u m e le = o (e ++ m ∷ c) (not_in_other n m e c le) ∙ counted_other n c (e ++ m ∷ c) ps (λ h. not_below m e c h) ∙ u m e (omega (arith, le))

    outside_behind : Outside c ps qs
    outside_behind d out = o d (λ h. out (in_below n d c h)) ∙ counted_other n c d ps (λ h. out ([], sym h))

  follows_behind : (qs rest : List Path) → Outside c ps qs → Follows c ps rest → Follows c qs rest
  follows_behind qs rest o f q rs h r = f q rs h (λ d out. r d out ∙ o d out)

module _ (k : ItemKind) (c : Path) (n : ℕ) (x : Content) (more : Items)
    (below : Ordered (n ∷ c) 0 (raw_below (n ∷ c) x)) (others : Ordered c (suc n) (raw_items k c (suc n) more)) where
  others_follow : (ps : List Path) (rest : List Raw) → counted c ps ≡ n → Unbegun c n ps → Follows c ps (begun_in rest) →
      Follows (n ∷ c) ((n ∷ c) ∷ ps) (begun_in (raw_items k c (suc n) more rest))
  others_follow ps rest e u f q qs h o =
      others q qs rest (in_below n q c h) (counted_behind n c ps qs o e) (unbegun_behind n c ps qs o u)
      (follows_behind n c ps qs (begun_in rest) (outside_behind n c ps qs o) f)

  item_ordered : (i : Note) → Ordered c n (raw_items k c n (item i x more))
  item_ordered i q ps rest h e u f =
      rw (begun_loose i.before)
      (lies q c h, ap (λ m. m ∷ c) (sym e), by_order (comes_behind i.trailing x) (is_collection x))
    where
      by_order : (b z : Bool) → InOrder (n ∷ c) ((n ∷ c) ∷ ps)
          (begun_in (if b then raw_below (n ∷ c) x (trailing (n ∷ c) k z i.trailing (raw_items k c (suc n) more rest)) else trailing (n ∷ c) k z i.trailing (raw_below (n ∷ c) x (raw_items k c (suc n) more rest))))
      by_order true z =
          below (n ∷ c) ((n ∷ c) ∷ ps) (trailing (n ∷ c) k z i.trailing (raw_items k c (suc n) more rest)) (in_itself (n ∷ c)) (counted_in n c ps u) (unbegun_in n c ps u)
          (rw begun_trailing (others_follow ps rest e u f))
      by_order false z =
          rw begun_trailing
          (below (n ∷ c) ((n ∷ c) ∷ ps) (raw_items k c (suc n) more rest) (in_itself (n ∷ c)) (counted_in n c ps u) (unbegun_in n c ps u) (others_follow ps rest e u f))

none_ordered : (c : Path) (n : ℕ) → Ordered c n (λ rest. rest)
none_ordered c n q ps rest h e u f = f q ps h (λ d out. refl)

mutual
  items_ordered : (k : ItemKind) (c : Path) (n : ℕ) (is : Items) → Ordered c n (raw_items k c n is)
  items_ordered k c n no_items = none_ordered c n
  items_ordered k c n (item i x more) = item_ordered k c n x more (below_ordered (n ∷ c) x) (items_ordered k c (suc n) more) i

  below_ordered : (p : Path) (x : Content) → Ordered p 0 (raw_below p x)
  below_ordered p (noted_scalar t) = none_ordered p 0
  below_ordered p (noted_list is) = items_ordered element_item p 0 is
  below_ordered p (noted_map is) = items_ordered pair_item p 0 is

text_ordered : (ds : Documents) → InOrder [] [] (begun_in (raw_text ds))
text_ordered ds = items_ordered document_item [] 0 ds.items [] [] (loose_all ds.after []) (in_itself []) refl (λ m e le. refl) (λ q qs h o. rw (begun_loose ds.after []) tt)

-- the items that begin among the events of documents are those of their text
pub events_begun : (r : CodeReader) (ignore : Bool) (file : ℕ) (ds : Documents) (es : List Event) → events r ignore file ds ≡ Ok es → begun_by es ≡ begun_in (raw_text ds)
unfolding events
events_begun r ignore file ds es e =
    let xs = by_line none_waits (raw_text ds) in
    IfOk-at_ok (Same (gathered r file nothing xs)) e (begun_heard r ignore file (gathered r file nothing xs)) ∙ begun_gathered r file nothing xs ∙ begun_by_line none_waits (raw_text ds)

-- the events of documents are in order
pub events_orderly : (r : CodeReader) (ignore : Bool) (file : ℕ) (ds : Documents) (es : List Event) → events r ignore file ds ≡ Ok es → Orderly [] [] es
events_orderly r ignore file ds es e = orderly_by [] [] es (rw (events_begun r ignore file ds es e) (text_ordered ds))
