-- The items and comments in text order are those of the definition of events.
use Rattle.std.proofs.Common.{◌≡◌, ℕ, suc, List, [], ◌∷◌, ◌++◌, Bool, true, false, Option, Some, None, refl, sym, ap, ◌∙◌, append_assoc, if◌then◌else◌}
use Rattle.std.proofs.lemmas.List.{map-append}
use Rattle.yaml_spec.specs.Noted.{Comment, Content, noted_scalar, noted_list, noted_map, Items, no_items, item, Documents}
use Rattle.code_spec.specs.Program.{ItemKind, document_item, pair_item, element_item}
use Rattle.template_spec.specs.Events.{Path, Raw, begun, trails, loose, is_collection, comes_behind, raw_items, raw_below, raw_text}
use Rattle.template_spec.specs.Events as events
use Rattle.template_pass.specs.Flat.{Flat, start, inside, flat_items, flat_below, flat_text, raw_of, raws_of}
use Rattle.template_pass.specs.Flat as flat

both : (xs ys : List Flat) (rest : List Raw) → raws_of (xs ++ ys) ++ rest ≡ raws_of xs ++ (raws_of ys ++ rest)
both xs ys rest = ap (λ l. l ++ rest) (map-append raw_of xs ys) ∙ append_assoc (raws_of xs) (raws_of ys) rest

loose_is : (cs : List Comment) (rest : List Raw) → raws_of (flat.loose_all cs) ++ rest ≡ events.loose_all cs rest
loose_is [] rest = refl
loose_is (c ∷ cs) rest = ap (λ l. loose c ∷ l) (loose_is cs rest)

trailing_is : (p : Path) (k : ItemKind) (b : Bool) (o : Option Comment) (rest : List Raw) → raws_of (flat.trailing p k b o) ++ rest ≡ events.trailing p k b o rest
trailing_is p k b None rest = refl
trailing_is p k b (Some c) rest = refl

-- two parts, in the order that a test says
inside_is : (b : Bool) (t u : List Flat) (trail below : List Raw → List Raw) → ((rest : List Raw) → raws_of t ++ rest ≡ trail rest) → ((rest : List Raw) → raws_of u ++ rest ≡ below rest) → (rest : List Raw)
    → raws_of (inside b t u) ++ rest ≡ (if b then below (trail rest) else trail (below rest))
inside_is true t u trail below e f rest = both u t rest ∙ ap (λ l. raws_of u ++ l) (e rest) ∙ f (trail rest)
inside_is false t u trail below e f rest = both t u rest ∙ ap (λ l. raws_of t ++ l) (f rest) ∙ e (below rest)

-- an item's own part, and those behind it
item_is : (cs : List Comment) (s : Flat) (i more : List Flat) (within : List Raw → List Raw) (after rest : List Raw) → ((rest : List Raw) → raws_of i ++ rest ≡ within rest) → raws_of more ++ rest ≡ after
    → raws_of ((flat.loose_all cs ++ s ∷ i) ++ more) ++ rest ≡ events.loose_all cs (raw_of s ∷ within after)
item_is cs s i more within after rest e f =
    both (flat.loose_all cs ++ s ∷ i) more rest ∙ both (flat.loose_all cs) (s ∷ i) (raws_of more ++ rest) ∙ loose_is cs (raw_of s ∷ (raws_of i ++ (raws_of more ++ rest)))
    ∙ ap (λ l. events.loose_all cs (raw_of s ∷ l)) (ap (λ l. raws_of i ++ l) f ∙ e after)

mutual
  items_are : (k : ItemKind) (c : Path) (n : ℕ) (is : Items) (rest : List Raw) → raws_of (flat_items k c n is) ++ rest ≡ raw_items k c n is rest
  items_are k c n no_items rest = refl
  items_are k c n (item i x more) rest =
      item_is i.before (start (n ∷ c) k i x) (inside (comes_behind i.trailing x) (flat.trailing (n ∷ c) k (is_collection x) i.trailing) (flat_below (n ∷ c) x)) (flat_items k c (suc n) more)
      (λ l. if comes_behind i.trailing x then raw_below (n ∷ c) x (events.trailing (n ∷ c) k (is_collection x) i.trailing l) else events.trailing (n ∷ c) k (is_collection x) i.trailing (raw_below (n ∷ c) x l))
      (raw_items k c (suc n) more rest) rest
      (inside_is (comes_behind i.trailing x) (flat.trailing (n ∷ c) k (is_collection x) i.trailing) (flat_below (n ∷ c) x) (events.trailing (n ∷ c) k (is_collection x) i.trailing) (raw_below (n ∷ c) x)
      (trailing_is (n ∷ c) k (is_collection x) i.trailing) (below_is (n ∷ c) x))
      (items_are k c (suc n) more rest)

  below_is : (p : Path) (x : Content) (rest : List Raw) → raws_of (flat_below p x) ++ rest ≡ raw_below p x rest
  below_is p (noted_scalar t) rest = refl
  below_is p (noted_list is) rest = items_are element_item p 0 is rest
  below_is p (noted_map is) rest = items_are pair_item p 0 is rest

unended : (xs : List Flat) (cs : List Comment) → raws_of (xs ++ flat.loose_all cs) ≡ raws_of xs ++ events.loose_all cs []
unended xs cs = map-append raw_of xs (flat.loose_all cs) ∙ ap (λ l. raws_of xs ++ l) (sym (loose_none cs) ∙ loose_is cs [])
  where
    loose_none : (cs : List Comment) → raws_of (flat.loose_all cs) ++ [] ≡ raws_of (flat.loose_all cs)
    loose_none [] = refl
    loose_none (c ∷ cs) = ap (λ l. loose c ∷ l) (loose_none cs)

pub raws_are : (ds : Documents) → raws_of (flat_text ds) ≡ raw_text ds
raws_are ds = unended (flat_items document_item [] 0 ds.items) ds.after ∙ items_are document_item [] 0 ds.items (events.loose_all ds.after [])
