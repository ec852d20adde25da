-- Text templates by computing, with a toy reader: code is a name, or two of them with ` + ` between, behind any white space.
use Rattle.std.proofs.Common.{◌≡◌, ℕ, false, if◌then◌else◌, List, [], ◌∷◌, Ok, Err, refl, codes, bytes_eq, pos}
use Rattle.ytt_base.specs.declared.fault.FaultKind.TheVariants as kind
use Rattle.ytt_base.specs.declared.fault.Place.{Place}
use Rattle.ytt_base.specs.Outcomes.{Outcome, fault_at, place_at}
use Rattle.ytt_base.specs.Trees.{integer, string}
use Rattle.yaml_spec.specs.Refusals.{refused}
use Rattle.code_spec.specs.Code.{Expr, no_exprs, name, no_parameters, text_template, Pieces, no_pieces, text_piece, expr_piece}
use Rattle.code_spec.specs.CodeReading.{CodeReader, end_header}
use Rattle.code_spec.specs.Program.{document_item, pair_item, element_item}
use Rattle.template_spec.specs.Template.{Items, no_items, an_item, Item, node, for_block, def_block, Notes, no_notes, note, Key, no_key, written_key, key_from, Content, written_value, value_from, pairs, elements}
use Rattle.text_template_spec.specs.TextPieces.{pieces_in}
use Rattle.text_template_spec.specs.TextTemplates.{with_texts}

-- any code is a name, but for `bad`
abbrev toy : CodeReader
toy = record {
  expr = λ p t. if bytes_eq t (codes "bad") then refused kind.CodeForm p else Ok (name p t);
  args = λ p t. Ok no_exprs;
  simple = λ p t. Ok [];
  header = λ p t. Ok end_header;
  is_open = λ p t. false;
  file = λ n t. Ok [];
}

abbrev at : ℕ → Place
at line = place_at 1 line

abbrev cut : List ℕ → Outcome Pieces
cut t = pieces_in toy (at 2) t

abbrev shown : List ℕ → Pieces → Pieces
shown t ps = expr_piece (name (at 2) t) ps

abbrev no_form : Outcome Pieces
no_form = refused kind.TextForm (at 2)

-- ---- texts

abbrev texts : List (Outcome Pieces × Outcome Pieces)
texts =
    (cut (codes "v(@= 1 + 1 @)"), Ok (text_piece (codes "v") (shown (codes " 1 + 1 ") no_pieces)))
    ∷ (cut (codes "v(@ x"), no_form)
    ∷ (cut (codes "v(@= x"), no_form)
    ∷ (cut (codes "(@=a@)(@=b@)"), Ok (shown (codes "a") (shown (codes "b") no_pieces)))
    ∷ (cut (codes "(@=a@)-(@=b@).c"), Ok (shown (codes "a") (text_piece (codes "-") (shown (codes "b") (text_piece (codes ".c") no_pieces)))))
    ∷ (cut (codes "(@=\"@)\"@)"), Ok (shown (codes "\"") (text_piece (codes "\"@)") no_pieces)))
    ∷ (cut (codes "(@=a-@)"), no_form)
    ∷ (cut (codes "(@=a-@ )@)"), Ok (shown (codes "a-@ )") no_pieces))
    ∷ (cut (codes "(@-a@)"), no_form)
    ∷ (cut (codes "-@) (@=a@)"), Ok (text_piece (codes "-@) ") (shown (codes "a") no_pieces)))
    ∷ (cut (codes "((@=a@))"), Ok (text_piece (codes "(") (shown (codes "a") (text_piece (codes ")") no_pieces))))
    ∷ (cut (codes "(@=(@=a@)"), Ok (shown (codes "(@=a") no_pieces))
    ∷ (cut (codes "(@=@)"), Ok (shown [] no_pieces))
    ∷ (cut (codes "(@=bad@)(@"), refused kind.CodeForm (at 2))
    ∷ (cut (codes "(@=a@)(@"), no_form)
    ∷ (cut (codes "a\n(@=\nb@)\n"), Ok (text_piece (codes "a\n") (shown (codes "\nb") (text_piece (codes "\n") no_pieces))))
    ∷ (cut (codes "(@"), no_form)
    ∷ (cut (codes "@) plain ("), Ok (text_piece (codes "@) plain (") no_pieces))
    ∷ (cut [], Ok no_pieces)
    ∷ []

abbrev firsts : List (Outcome Pieces × Outcome Pieces) → List (Outcome Pieces)
firsts [] = []
firsts (r ∷ rs) = r.0 ∷ firsts rs

abbrev seconds : List (Outcome Pieces × Outcome Pieces) → List (Outcome Pieces)
seconds [] = []
seconds (r ∷ rs) = r.1 ∷ seconds rs

texts_are_cut : firsts texts ≡ seconds texts
unfolding pieces_in
texts_are_cut = refl

-- ---- templates

abbrev texted : Notes → Notes
texted ns = note (at 1) (codes "yaml/text-templated-strings") no_exprs ns

abbrev pair_on : (line : ℕ) → Notes → Key → Content → Item
pair_on line ns key c = node (at line) pair_item ns key c

abbrev written : List ℕ → Content
written t = written_value (string t)

abbrev key : List ℕ → Key
key t = written_key (string t)

abbrev one : Item → Items
one i = an_item i no_items

-- `v` and then the code `x`, on a line
abbrev shown_on : (line : ℕ) → Expr
shown_on line = text_template (at line) (text_piece (codes "v") (expr_piece (name (at line) (codes "x")) no_pieces))

abbrev document : Items → Items
document is = one (node (at 1) document_item no_notes no_key (pairs is))

-- values and keys under the note, in loops and functions too, and nothing beside it
abbrev before : Items
before =
    document (
    an_item (pair_on 2 (texted no_notes) (key (codes "v(@=x@)")) (pairs (
    an_item (pair_on 3 no_notes (key (codes "k")) (written (codes "v(@=x@)"))) (
    an_item (pair_on 4 no_notes (key (codes "k")) (elements (one (for_block (at 5) (name (at 5) (codes "i")) (name (at 5) (codes "y")) (one (node (at 6) element_item no_notes no_key (written (codes "v(@=x@)")))))))) (
    an_item (pair_on 7 no_notes (written_key (integer (pos 1))) (value_from (name (at 7) (codes "v(@=x@)")))) (
    an_item (pair_on 8 no_notes (key (codes "k")) (written (codes "plain @)"))) (
    one (def_block (at 9) 0 (codes "f") no_parameters pair_item (one (pair_on 10 no_notes (key (codes "k")) (written (codes "v(@=x@)"))))))))))))
    (one (pair_on 11 no_notes (key (codes "k")) (written (codes "v(@=x@)"))))
    )

abbrev after : Items
after =
    document (
    an_item (pair_on 2 (texted no_notes) (key_from (shown_on 2)) (pairs (
    an_item (pair_on 3 no_notes (key (codes "k")) (value_from (shown_on 3))) (
    an_item (pair_on 4 no_notes (key (codes "k")) (elements (one (for_block (at 5) (name (at 5) (codes "i")) (name (at 5) (codes "y")) (one (node (at 6) element_item no_notes no_key (value_from (shown_on 6)))))))) (
    an_item (pair_on 7 no_notes (written_key (integer (pos 1))) (value_from (name (at 7) (codes "v(@=x@)")))) (
    an_item (pair_on 8 no_notes (key (codes "k")) (written (codes "plain @)"))) (
    one (def_block (at 9) 0 (codes "f") no_parameters pair_item (one (pair_on 10 no_notes (key (codes "k")) (value_from (shown_on 10))))))))))))
    (one (pair_on 11 no_notes (key (codes "k")) (written (codes "v(@=x@)"))))
    )

notes_reach_below : with_texts toy before ≡ Ok after
unfolding pieces_in with_texts
notes_reach_below = refl

-- the key's fault comes before the value's, and an item's before the next one's
abbrev two_faults : (first second : List ℕ) → Items
two_faults t u = document (an_item (pair_on 2 (texted no_notes) (key t) (written u)) (one (pair_on 3 (texted no_notes) (key (codes "k")) (written (codes "(@")))))

key_comes_first : with_texts toy (two_faults (codes "(@=bad@)") (codes "(@")) ≡ Err (fault_at kind.CodeForm (at 2))
unfolding pieces_in with_texts
key_comes_first = refl

value_comes_next : with_texts toy (two_faults (codes "k") (codes "(@")) ≡ Err (fault_at kind.TextForm (at 2))
unfolding pieces_in with_texts
value_comes_next = refl

then_the_next_item : with_texts toy (two_faults (codes "k") (codes "v")) ≡ Err (fault_at kind.TextForm (at 3))
unfolding pieces_in with_texts
then_the_next_item = refl
