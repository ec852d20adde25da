-- The items and comments by level are those of the row with paths.
use Rattle.std.proofs.Common.{◌≡◌, ℕ, suc, List, [], ◌∷◌, ◌++◌, Bool, true, false, Option, Some, None, refl, sym, ap, ◌∙◌, length, map as each, add-one}
use Rattle.std.proofs.lemmas.List.{map-append}
use Rattle.yaml_spec.specs.Noted.{Comment, Content, noted_scalar, noted_list, noted_map, Items, no_items, item, Documents}
use Rattle.code_spec.specs.Program.{ItemKind, document_item, pair_item, element_item}
use Rattle.template_spec.specs.Events.{Path, is_collection, comes_behind}
use Rattle.template_pass.specs.Flat.{Flat, starts, trailing_of, alone, start, flat_items, flat_below, flat_text}
use Rattle.template_pass.specs.Flat as flat
use Rattle.template_pass.specs.Rows.{level_of}
use Rattle.template_events.specs.Levels.{Part, Owner, comment, owner, parts_among, parts_below, parts_in}
use Rattle.template_events.specs.Levels as level

abbrev pub by_level : Flat → Part
by_level (starts p k l key w) = level.starts (level_of p) k l key w
by_level (trailing_of p k b c) = comment (Some (record { level = level_of p; kind = k; is_collection = b })) c
by_level (alone c) = comment None c

abbrev pub all_by_level : List Flat → List Part
all_by_level fs = each by_level fs

loose_by_level : (cs : List Comment) → all_by_level (flat.loose_all cs) ≡ level.loose_all cs
loose_by_level [] = refl
loose_by_level (c ∷ cs) = ap (λ l. comment None c ∷ l) (loose_by_level cs)

trailing_by_level : (p : Path) (k : ItemKind) (x : Content) (o : Option Comment) → all_by_level (flat.trailing p k (is_collection x) o) ≡ level.trailing (owner (level_of p) k x) o
trailing_by_level p k x None = refl
trailing_by_level p k x (Some c) = refl

inside_by_level : (b : Bool) (t u : List Flat) (t' u' : List Part) → all_by_level t ≡ t' → all_by_level u ≡ u' → all_by_level (flat.inside b t u) ≡ level.inside b t' u'
inside_by_level true t u t' u' e f = map-append by_level u t ∙ ap (λ l. l ++ all_by_level t) f ∙ ap (λ l. u' ++ l) e
inside_by_level false t u t' u' e f = map-append by_level t u ∙ ap (λ l. l ++ all_by_level u) e ∙ ap (λ l. t' ++ l) f

item_by_level : (cs : List Comment) (s : Flat) (i more : List Flat) (i' more' : List Part) → all_by_level i ≡ i' → all_by_level more ≡ more'
    → all_by_level ((flat.loose_all cs ++ s ∷ i) ++ more) ≡ (level.loose_all cs ++ by_level s ∷ i') ++ more'
item_by_level cs s i more i' more' e f =
    map-append by_level (flat.loose_all cs ++ s ∷ i) more ∙ ap (λ l. l ++ all_by_level more) (map-append by_level (flat.loose_all cs) (s ∷ i) ∙ ap (λ l. l ++ by_level s ∷ all_by_level i) (loose_by_level cs))
    ∙ ap (λ l. (level.loose_all cs ++ by_level s ∷ l) ++ all_by_level more) e ∙ ap (λ l. (level.loose_all cs ++ by_level s ∷ i') ++ l) f

mutual
  items_by_level : (k : ItemKind) (c : Path) (n : ℕ) (is : Items) → all_by_level (flat_items k c n is) ≡ parts_among k (length c) is
  items_by_level k c n no_items = refl
  items_by_level k c n (item i x more) =
      item_by_level i.before (start (n ∷ c) k i x) (flat.inside (comes_behind i.trailing x) (flat.trailing (n ∷ c) k (is_collection x) i.trailing) (flat_below (n ∷ c) x)) (flat_items k c (suc n) more)
      (level.inside (comes_behind i.trailing x) (level.trailing (owner (length c) k x) i.trailing) (parts_below (length c) x)) (parts_among k (length c) more)
      (inside_by_level (comes_behind i.trailing x) (flat.trailing (n ∷ c) k (is_collection x) i.trailing) (flat_below (n ∷ c) x) (level.trailing (owner (length c) k x) i.trailing) (parts_below (length c) x)
      (trailing_by_level (n ∷ c) k x i.trailing) (below_by_level n c x))
      (items_by_level k c (suc n) more)

  below_by_level : (n : ℕ) (c : Path) (x : Content) → all_by_level (flat_below (n ∷ c) x) ≡ parts_below (length c) x
  below_by_level n c (noted_scalar t) = refl
  below_by_level n c (noted_list is) = items_by_level element_item (n ∷ c) 0 is ∙ ap (λ d. parts_among element_item d is) (sym (add-one (length c)))
  below_by_level n c (noted_map is) = items_by_level pair_item (n ∷ c) 0 is ∙ ap (λ d. parts_among pair_item d is) (sym (add-one (length c)))

pub parts_by_level : (ds : Documents) → all_by_level (flat_text ds) ≡ parts_in ds
parts_by_level ds =
    map-append by_level (flat_items document_item [] 0 ds.items) (flat.loose_all ds.after) ∙ ap (λ l. l ++ all_by_level (flat.loose_all ds.after)) (items_by_level document_item [] 0 ds.items)
    ∙ ap (λ l. parts_among document_item 0 ds.items ++ l) (loose_by_level ds.after)
