-- The items of noted documents, collection by collection, are the nodes that placing gives.
use Rattle.std.proofs.Common.{◌≡◌, ℕ, suc, ◌≤◌, Bool, true, false, List, [], ◌∷◌, ◌++◌, length, bytes_eq, refl, sym, ◌∙◌, ap, ap₂, arith, append-nil}
use Rattle.yaml_spec.specs.Noted as noted
use Rattle.yaml_spec.specs.Noted.{Note, noted_scalar, noted_list, noted_map}
use Rattle.code_spec.specs.Program.{ItemKind, pair_item, element_item}
use Rattle.template_spec.specs.Events.{Path, Event}
use Rattle.template_spec.specs.OpenBlocks.{collection_of}
use Rattle.template_spec.specs.Nesting.{Part, a_node, marks, marks_at, nest, whole, node_at, parts, content, key_part, value_or, value_beside, notes_from, note_beside, events_at}
use Rattle.ytt_base.specs.Outcomes.{place_at}
use Rattle.template_spec.specs.Template.{Item, node, Content, pairs, elements}
use Rattle.template_pass.specs.Building.{content_of}
use Rattle.template_pass.specs.Flat.{shape}
use Rattle.template_pass.proofs.ByPath.{PathPut, node_if, slot_of}
use Rattle.template_pass.proofs.Inside.{inside_more, path_same, path_other}
use Rattle.template_pass.proofs.Paths.{In, in_itself, in_through, in_length, same_by_length}
use Rattle.template_pass.proofs.Settled.{Begun, node_of, nodes_in}
use Rattle.template_pass.proofs.Woven.{weave}

abbrev pub begun_of : Path → ItemKind → Note → noted.Content → Begun
begun_of p k i x = record { path = p; kind = k; line = i.place.line; key = i.key; written = shape x }

-- the items of a collection from one on, each with those in it
abbrev mutual
  pub items_begun : ItemKind → Path → (number : ℕ) → noted.Items → List Begun
  items_begun k c n noted.no_items = []
  items_begun k c n (noted.item i x more) = begun_of (n ∷ c) k i x ∷ (below_begun (n ∷ c) x ++ items_begun k c (suc n) more)

  pub below_begun : Path → noted.Content → List Begun
  below_begun p (noted_scalar t) = []
  below_begun p (noted_list is) = items_begun element_item p 0 is
  below_begun p (noted_map is) = items_begun pair_item p 0 is

either : (b : Bool) (x : Item) (xs ys zs : List Item) → zs ≡ xs ++ ys → node_if b x zs ≡ node_if b x xs ++ ys
either true x xs ys zs e = ap (λ (us : List Item). x ∷ us) e
either false x xs ys zs e = e

module _ (file : ℕ) (text : List Event) (puts : List PathPut) where
  -- ---- lists of items

  nodes-append : (c : Path) (bs cs : List Begun) → nodes_in file text puts c (bs ++ cs) ≡ nodes_in file text puts c bs ++ nodes_in file text puts c cs
  nodes-append c [] cs = refl
  nodes-append c (b ∷ bs) cs = either (bytes_eq (collection_of b.path) c) (node_of file text puts b) _ _ _ (nodes-append c bs cs)

  -- items of other collections
  abbrev Elsewhere : Path → Path → (number : ℕ) → Type 0
  Elsewhere d c n = (d ≡ c → ⊥) × ((m : ℕ) → n ≤ m → In d (m ∷ c) → ⊥)

  elsewhere_below : (d p : Path) → (In d p → ⊥) → Elsewhere d p 0
  elsewhere_below d p h = (λ e. h ([], e), λ m l i. h (in_through d (m ∷ p) p i (inside_more m p p (in_itself p))))

  mutual
    none_among : (d : Path) (k : ItemKind) (c : Path) (n : ℕ) (is : noted.Items) → Elsewhere d c n → nodes_in file text puts d (items_begun k c n is) ≡ []
    none_among d k c n noted.no_items h = refl
    none_among d k c n (noted.item i x more) h =
        ap (λ (b : Bool). node_if b (node_of file text puts (begun_of (n ∷ c) k i x)) (nodes_in file text puts d (below_begun (n ∷ c) x ++ items_begun k c (suc n) more)))
        (path_other c d (λ e. h.0 (sym e)))
        ∙ nodes-append d (below_begun (n ∷ c) x) (items_begun k c (suc n) more)
        ∙ ap₂ (λ (xs ys : List Item). xs ++ ys) (none_below d (n ∷ c) x (h.1 n (omega arith))) (none_among d k c (suc n) more (h.0, λ m l. h.1 m (omega (arith, l))))

    none_below : (d p : Path) (x : noted.Content) → (In d p → ⊥) → nodes_in file text puts d (below_begun p x) ≡ []
    none_below d p (noted_scalar t) h = refl
    none_below d p (noted_list is) h = none_among d element_item p 0 is (elsewhere_below d p h)
    none_below d p (noted_map is) h = none_among d pair_item p 0 is (elsewhere_below d p h)

  -- an item's own collection has the item, and none of those in it
  abbrev own_nodes : ItemKind → Path → (number : ℕ) → noted.Items → List Item
  own_nodes k c n noted.no_items = []
  own_nodes k c n (noted.item i x more) = node_of file text puts (begun_of (n ∷ c) k i x) ∷ own_nodes k c (suc n) more

  not_inside : (n : ℕ) (c : Path) → In c (n ∷ c) → ⊥
  not_inside n c i = omega (arith, in_length c (n ∷ c) i)

  own_are : (k : ItemKind) (c : Path) (n : ℕ) (is : noted.Items) → nodes_in file text puts c (items_begun k c n is) ≡ own_nodes k c n is
  own_are k c n noted.no_items = refl
  own_are k c n (noted.item i x more) =
      ap (λ (b : Bool). node_if b (node_of file text puts (begun_of (n ∷ c) k i x)) (nodes_in file text puts c (below_begun (n ∷ c) x ++ items_begun k c (suc n) more))) (path_same c c refl)
      ∙ ap (λ (xs : List Item). node_of file text puts (begun_of (n ∷ c) k i x) ∷ xs)
      (nodes-append c (below_begun (n ∷ c) x) (items_begun k c (suc n) more)
      ∙ ap₂ (λ (xs ys : List Item). xs ++ ys) (none_below c (n ∷ c) x (not_inside n c)) (own_are k c (suc n) more))

  -- ---- the items of one collection stand where the tree has them

  module _ (all : List Begun) where
    abbrev HeldItems : ItemKind → Path → (number : ℕ) → noted.Items → Type 0
    HeldItems k c n is = (d : Path) (m : ℕ) → n ≤ m → In d (m ∷ c) → nodes_in file text puts d all ≡ nodes_in file text puts d (items_begun k c n is)

    abbrev pub Held : Path → noted.Content → Type 0
    Held p x = (d : Path) → In d p → nodes_in file text puts d all ≡ nodes_in file text puts d (below_begun p x)

    further_in : (d c : Path) (m : ℕ) → In d (m ∷ c) → c ≡ d → ⊥
    further_in d c m i e = let f : length c ≡ length d = ap length e in omega (arith, f, in_length d (m ∷ c) i)

    behind_own : (k : ItemKind) (c : Path) (n : ℕ) (i : Note) (x : noted.Content) (more : noted.Items) (d : Path) (m : ℕ) → In d (m ∷ c) →
        nodes_in file text puts d (items_begun k c n (noted.item i x more)) ≡ nodes_in file text puts d (below_begun (n ∷ c) x) ++ nodes_in file text puts d (items_begun k c (suc n) more)
    behind_own k c n i x more d m j =
        ap (λ (b : Bool). node_if b (node_of file text puts (begun_of (n ∷ c) k i x)) (nodes_in file text puts d (below_begun (n ∷ c) x ++ items_begun k c (suc n) more)))
        (path_other c d (further_in d c m j))
        ∙ nodes-append d (below_begun (n ∷ c) x) (items_begun k c (suc n) more)

    one_item : (d c : Path) (m n : ℕ) → In d (m ∷ c) → In d (n ∷ c) → m ≡ n
    one_item d c m n i j = let e : m ∷ c ≡ n ∷ c = same_by_length d (m ∷ c) (n ∷ c) i j refl in cc e

    held_item : (k : ItemKind) (c : Path) (n : ℕ) (i : Note) (x : noted.Content) (more : noted.Items) → HeldItems k c n (noted.item i x more) → Held (n ∷ c) x
    held_item k c n i x more h d j =
        h d n (omega arith) j ∙ behind_own k c n i x more d n j
        ∙ ap (λ (xs : List Item). nodes_in file text puts d (below_begun (n ∷ c) x) ++ xs)
        (none_among d k c (suc n) more (λ e. further_in d c n j (sym e), λ m l s. omega (arith, l, one_item d c m n s j)))
        ∙ append-nil (nodes_in file text puts d (below_begun (n ∷ c) x))

    held_more : (k : ItemKind) (c : Path) (n : ℕ) (i : Note) (x : noted.Content) (more : noted.Items) → HeldItems k c n (noted.item i x more) → HeldItems k c (suc n) more
    held_more k c n i x more h d m l j =
        h d m (omega (arith, l)) j ∙ behind_own k c n i x more d m j
        ∙ ap (λ (xs : List Item). xs ++ nodes_in file text puts d (items_begun k c (suc n) more)) (none_below d (n ∷ c) x (λ s. omega (arith, l, one_item d c m n j s)))

    held_below : (k : ItemKind) (p : Path) (is : noted.Items) → ((d : Path) → In d p → nodes_in file text puts d all ≡ nodes_in file text puts d (items_begun k p 0 is)) → HeldItems k p 0 is
    held_below k p is h d m l j = h d (in_through d (m ∷ p) p j (inside_more m p p (in_itself p)))

    -- ---- the nodes of the definition

    abbrev placed_nodes : ItemKind → Path → (number : ℕ) → noted.Items → List Item
    placed_nodes k c n noted.no_items = []
    placed_nodes k c n (noted.item i x more) = node_at file text (n ∷ c) k i (content file text (n ∷ c) x) ∷ placed_nodes k c (suc n) more

    parts_woven : (k : ItemKind) (c : Path) (n : ℕ) (is : noted.Items) → parts file text k c n is ≡ weave c n (marks [] text) (placed_nodes k c n is)
    parts_woven k c n noted.no_items = refl
    parts_woven k c n (noted.item i x more) =
        ap (λ (ps : List Part). marks_at c n (marks [] text) (a_node (node_at file text (n ∷ c) k i (content file text (n ∷ c) x)) ∷ ps)) (parts_woven k c (suc n) more)

    -- the parts of a slot are those of its collection
    module _ (wove : (c : Path) → (slot_of file c puts).parts ≡ weave c 0 (marks [] text) (nodes_in file text puts c all)) where
      parts_of : (k : ItemKind) (c : Path) (is : noted.Items) → nodes_in file text puts c all ≡ nodes_in file text puts c (items_begun k c 0 is) → own_nodes k c 0 is ≡ placed_nodes k c 0 is →
          (slot_of file c puts).parts ≡ parts file text k c 0 is
      parts_of k c is h e =
          wove c ∙ ap (λ (xs : List Item). weave c 0 (marks [] text) xs) (h ∙ own_are k c 0 is ∙ e) ∙ sym (parts_woven k c 0 is)

      mutual
        own_placed : (k : ItemKind) (c : Path) (n : ℕ) (is : noted.Items) → HeldItems k c n is → own_nodes k c n is ≡ placed_nodes k c n is
        own_placed k c n noted.no_items h = refl
        own_placed k c n (noted.item i x more) h =
            ap₂ (λ (w : Content) (xs : List Item). node (place_at file i.place.line) k (notes_from file (note_beside file (n ∷ c) text) (events_at (n ∷ c) text text)) (key_part i.key) (value_or (value_beside (n ∷ c) text) w) ∷ xs)
            (content_placed (n ∷ c) x (held_item k c n i x more h)) (own_placed k c (suc n) more (held_more k c n i x more h))

        content_placed : (p : Path) (x : noted.Content) → Held p x → content_of file (shape x) (slot_of file p puts).parts ≡ content file text p x
        content_placed p (noted_scalar t) h = refl
        content_placed p (noted_list is) h =
            ap (λ (ps : List Part). elements (whole (nest file element_item ps))) (parts_of element_item p is (h p (in_itself p)) (own_placed element_item p 0 is (held_below element_item p is h)))
        content_placed p (noted_map is) h =
            ap (λ (ps : List Part). pairs (whole (nest file pair_item ps))) (parts_of pair_item p is (h p (in_itself p)) (own_placed pair_item p 0 is (held_below pair_item p is h)))

      -- so it is for a collection in which all items are
      pub slot_parts : (k : ItemKind) (c : Path) (is : noted.Items) → all ≡ items_begun k c 0 is → (slot_of file c puts).parts ≡ parts file text k c 0 is
      slot_parts k c is e =
          parts_of k c is (ap (λ (bs : List Begun). nodes_in file text puts c bs) e) (own_placed k c 0 is (λ d m l j. ap (λ (bs : List Begun). nodes_in file text puts d bs) e))
