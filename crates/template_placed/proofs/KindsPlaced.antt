-- The template that placing gives has nodes of the kinds of their collections, with keys on pairs alone.
use Rattle.std.proofs.Common.{◌≡◌, ℕ, suc, Bool, true, false, if◌then◌else◌, bytes_eq, ◌==◌, ◌&&◌, List, [], ◌∷◌, Option, Some, None, Ok, refl}
use Rattle.std.specs.Prelude.{is_some}
use Rattle.std.specs.Result.{IfOk}
use Rattle.std.proofs.lemmas.Result.{IfOk-at_ok}
use Rattle.ytt_base.specs.declared.fault.Fault.{Fault}
use Rattle.ytt_base.specs.declared.fault.Place.{Place}
use Rattle.ytt_base.specs.Outcomes.{place_at}
use Rattle.ytt_base.specs.Trees.{Scalar}
use Rattle.ytt_laws.proofs.Yielded.{yielded_behind}
use Rattle.yaml_spec.specs.Noted as noted
use Rattle.yaml_spec.specs.Noted.{Note, Documents, noted_scalar, noted_list, noted_map}
use Rattle.yaml_held.specs.Keyed.{KeyedItems, KeyedContent, KeyedDocuments}
use Rattle.code_spec.specs.Code.{Expr}
use Rattle.code_spec.specs.CodeReading.{CodeReader, Header, if_header, for_header, def_header}
use Rattle.code_spec.specs.Program.{ItemKind, document_item, element_item, pair_item, Instruction, statement}
use Rattle.template_spec.specs.Comments.{Said, statements, opens, elif, otherwise, closes}
use Rattle.template_spec.specs.Events.{Event, Path, events}
use Rattle.template_spec.specs.Misplaced.{placing_fault}
use Rattle.template_spec.specs.Nesting.{Mark, Nested, broken, at_top, inside, Part, a_node, a_mark, around_one, block_of, content, key_part, last_branch, marks, marks_at, nest, nest_said, next_branch, open_block, parts, placed_or, placed_whole, put, put_block, put_statements, template_of, value_beside, value_or, whole}
use Rattle.template_spec.specs.Placed.{KeyFits}
use Rattle.template_spec.specs.Template.{Item, code, if_block, for_block, def_block, Items, no_items, an_item, Branches, no_branch, Content}
use Rattle.template_placed.specs.Kinded.{KindedItem, KindedItems, KindedBranches, KindedContent, Kinded}

-- ---- what is read from the end of a collection

module _ (kind : ItemKind) where
  abbrev KindedNested : Nested → Type 0
  KindedNested broken = Unit {0}
  KindedNested (at_top is) = KindedItems kind is
  KindedNested (inside is more outer) = KindedItems kind is × KindedBranches kind more × KindedNested outer

  kinded_whole : (n : Nested) → KindedNested n → KindedItems kind (whole n)
  kinded_whole broken h = tt
  kinded_whole (at_top is) h = h
  kinded_whole (inside is more outer) h = tt

  kinded_put : (i : Item) (n : Nested) → KindedItem kind i → KindedNested n → KindedNested (put i n)
  kinded_put i broken h g = tt
  kinded_put i (at_top is) h g = (h, g)
  kinded_put i (inside is more outer) h g = ((h, g.0), g.1, g.2)

  kinded_statements : (is : List Instruction) (n : Nested) → KindedNested n → KindedNested (put_statements is n)
  kinded_statements [] n g = g
  kinded_statements (statement s ∷ is) n g = kinded_put (code s) (put_statements is n) tt (kinded_statements is n g)
  kinded_statements (i ∷ is) n g = kinded_statements is n g

  module _ (p : Place) where
    kinded_block : (h : Header) (is : Items) (more : Branches) (n : Nested) → KindedItems kind is → KindedBranches kind more → KindedNested n → KindedNested (put_block (block_of kind p h is more) n)
    kinded_block (if_header e) is more n b m g = kinded_put (if_block p e is more) n (b, m) g
    kinded_block (for_header x e) is no_branch n b m g = kinded_put (for_block p x e is) n b g
    kinded_block (def_header x ps) is no_branch n b m g = kinded_put (def_block p 0 x ps kind is) n (refl, b) g
    kinded_block h is more n b m g = tt

    kinded_around : (h : Header) (n : Nested) → KindedNested n → KindedNested (around_one kind p h n)
    kinded_around h (at_top (an_item i is)) g = kinded_block h (an_item i no_items) no_branch (at_top is) (g.0, tt) tt g.1
    kinded_around h (inside (an_item i is) more outer) g = kinded_block h (an_item i no_items) no_branch (inside is more outer) (g.0.0, tt) tt (g.0.1, g.1, g.2)
    kinded_around h n g = tt

    kinded_open : (h : Header) (n : Nested) → KindedNested n → KindedNested (open_block kind p h n)
    kinded_open h (inside is more outer) g = kinded_block h is more outer g.0 g.1 g.2
    kinded_open h n g = tt

    kinded_branch : (e : Expr) (n : Nested) → KindedNested n → KindedNested (next_branch p e n)
    kinded_branch e (inside is more outer) g = (tt, (g.0, g.1), g.2)
    kinded_branch e n g = tt

    kinded_last : (n : Nested) → KindedNested n → KindedNested (last_branch p n)
    kinded_last (inside is no_branch outer) g = (tt, g.0, g.2)
    kinded_last n g = tt

    kinded_said : (s : Said) (n : Nested) → KindedNested n → KindedNested (nest_said kind p s n)
    kinded_said (statements is) n g = kinded_statements is n g
    kinded_said (opens h true) n g = kinded_around h n g
    kinded_said (opens h false) n g = kinded_open h n g
    kinded_said (elif e) n g = kinded_branch e n g
    kinded_said otherwise n g = kinded_last n g
    kinded_said closes n g = (tt, tt, g)
    kinded_said s n g = g

  abbrev KindedParts : List Part → Type 0
  KindedParts [] = Unit {0}
  KindedParts (a_node i ∷ ps) = KindedItem kind i × KindedParts ps
  KindedParts (a_mark l s ∷ ps) = KindedParts ps

  kinded_nest : (file : ℕ) (ps : List Part) → KindedParts ps → KindedNested (nest file kind ps)
  kinded_nest file [] g = tt
  kinded_nest file (a_node i ∷ ps) g = kinded_put i (nest file kind ps) g.0 (kinded_nest file ps g.1)
  kinded_nest file (a_mark l s ∷ ps) g = kinded_said (place_at file l) s (nest file kind ps) (kinded_nest file ps g)

  -- ---- the parts of a collection

  kinded_mark : (b : Bool) (l : ℕ) (s : Said) (ps : List Part) → KindedParts ps → KindedParts (if b then a_mark l s ∷ ps else ps)
  kinded_mark true l s ps g = g
  kinded_mark false l s ps g = g

  kinded_marks : (c : Path) (number : ℕ) (ms : List Mark) (rest : List Part) → KindedParts rest → KindedParts (marks_at c number ms rest)
  kinded_marks c number [] rest g = g
  kinded_marks c number (m ∷ ms) rest g =
      kinded_mark (bytes_eq m.collection c && m.number == number) m.line m.said (marks_at c number ms rest) (kinded_marks c number ms rest g)

-- ---- keys

abbrev is_pair : ItemKind → Bool
is_pair pair_item = true
is_pair k = false

key_fits : (kind : ItemKind) (o : Option Scalar) → is_some o ≡ is_pair kind → KeyFits kind (key_part o)
key_fits pair_item None e = cc e
key_fits pair_item (Some s) e = tt
key_fits document_item None e = tt
key_fits document_item (Some s) e = cc e
key_fits element_item None e = tt
key_fits element_item (Some s) e = cc e

kinded_value : (o : Option Expr) (c : Content) → KindedContent c → KindedContent (value_or o c)
kinded_value None c g = g
kinded_value (Some e) c g = tt

-- ---- items and what is in them

module _ (file : ℕ) (text : List Event) where
  kinded_items : (kind : ItemKind) (ps : List Part) → KindedParts kind ps → KindedItems kind (whole (nest file kind ps))
  kinded_items kind ps g = kinded_whole kind (nest file kind ps) (kinded_nest kind file ps g)

  mutual
    kinded_parts : (kind : ItemKind) (c : Path) (number : ℕ) (is : noted.Items) → KeyedItems (is_pair kind) is → KindedParts kind (parts file text kind c number is)
    kinded_parts kind c number noted.no_items h = kinded_marks kind c number (marks [] text) [] tt
    kinded_parts kind c number (noted.item i x more) h =
        kinded_marks kind c number (marks [] text) _ (
          (refl, key_fits kind i.key h.0, kinded_value (value_beside (number ∷ c) text) (content file text (number ∷ c) x) (kinded_content (number ∷ c) x h.1)),
          kinded_parts kind c (suc number) more h.2,
        )

    kinded_content : (p : Path) (c : noted.Content) → KeyedContent c → KindedContent (content file text p c)
    kinded_content p (noted_scalar t) h = tt
    kinded_content p (noted_list is) h = kinded_items element_item (parts file text element_item p 0 is) (kinded_parts element_item p 0 is h)
    kinded_content p (noted_map is) h = kinded_items pair_item (parts file text pair_item p 0 is) (kinded_parts pair_item p 0 is h)

-- ---- whole files

kinded_or : (o : Option Fault) (t : Items) → Kinded t → IfOk (placed_or o t) Kinded
kinded_or None t g = g
kinded_or (Some f) t g = tt

kinded_template : (file : ℕ) (es : List Event) (ds : Documents) → KeyedDocuments ds → Kinded (template_of file es ds.items)
kinded_template file es ds h = kinded_items file es document_item (parts file es document_item [] 0 ds.items) (kinded_parts file es document_item [] 0 ds.items h)

pub kinded_whole_file : (r : CodeReader) (ignore : Bool) (file : ℕ) (ds : Documents) (t : Items) → KeyedDocuments ds → placed_whole r ignore file ds ≡ Ok t → Kinded t
unfolding placed_whole
kinded_whole_file r ignore file ds t h e =
    IfOk-at_ok Kinded e
    (yielded_behind Kinded (events r ignore file ds) _ (λ es. kinded_or (placing_fault file es) (template_of file es ds.items) (kinded_template file es ds h)))
