-- Passes over what stands in lists.
use Rattle.std.proofs.Common.{◌≡◌, ℕ, ◌+◌, ◌<◌, ◌≤◌, List, [], ◌∷◌, ◌++◌, length, drop, get_or, refl, sym, ap, ◌∙◌, append_assoc, append-nil, map as each}
use Rattle.std.proofs.lemmas.List.{drop_more, drop_all, map_push}
use Rattle.code_spec.specs.Code as plain
use Rattle.code_spec.specs.Numbering.{Pass, Passed, number_clauses, number_entries, number_expr, number_exprs, number_parameters, number_pieces, over_one}
use Rattle.star_tree.specs.Whole.{Clause, for_part, if_part, Entry, Parameter, named_part, default_part, bare_part, star_part, stars_part, Piece, written_part, expr_part, clauses_from, entries_from, exprs_from, parameters_from, pieces_from}
use Rattle.star_number.specs.Rows.{behind, in_row, number_clause, number_entry, number_parameter, number_piece}

-- what a pass gives, made into something else
abbrev pub with_first : {A B : Type 0} → (A → B) → Passed A → Passed B
with_first f p = record { result = f p.result; next = p.next }

-- ---- turns of a loop, whose members are seen as As

-- one more turn
pub row_turn : {T A : Type 0} (view : T → A) (f : A → Pass A) (all : Passed (List A)) (xs made makes : List T) (j now next : ℕ) (x y : T) →
    j < length xs → x ≡ get_or xs j x → record { result = view y; next = next } ≡ f (view x) now → makes ≡ made ++ y ∷ [] →
    behind (each view made) (in_row f (each view (drop j xs)) now) ≡ all → behind (each view makes) (in_row f (each view (drop (j + 1) xs)) next) ≡ all
row_turn view f all xs made makes j now next x y lt here is put h =
    let rest = drop (j + 1) xs in
    let after = in_row f (each view rest) next in
    ap (λ l. behind l after) (ap (each view) put ∙ map_push view made y)
    ∙ ap (λ l. record { result = l; next = after.next }) (append_assoc (each view made) (view y ∷ []) after.result)
    ∙ ap (λ p. behind (each view made) (with_first (λ ys. p.result ∷ ys) (in_row f (each view rest) p.next))) is
    ∙ ap (λ l. behind (each view made) (in_row f (each view l) now)) (ap (λ z. z ∷ rest) here ∙ sym (drop_more xs j x lt))
    ∙ h

-- all turns
pub row_done : {T A : Type 0} (view : T → A) (f : A → Pass A) (all : Passed (List A)) (xs made : List T) (j now : ℕ) →
    length xs ≤ j → behind (each view made) (in_row f (each view (drop j xs)) now) ≡ all → record { result = each view made; next = now } ≡ all
row_done view f all xs made j now le h =
    (λ i. record { result = sym (append-nil (each view made)) i; next = now })
    ∙ ap (λ l. behind (each view made) (in_row f (each view l) now)) (sym (drop_all j xs le))
    ∙ h

-- all turns, where what is made stands for something else
pub row_whole : {T A B : Type 0} (view : T → A) (f : A → Pass A) (from : List A → B) (whole : Passed B) (xs made : List T) (j now first : ℕ) →
    length xs ≤ j → over_one from (in_row f (each view xs)) first ≡ whole → behind (each view made) (in_row f (each view (drop j xs)) now) ≡ in_row f (each view xs) first →
    record { result = from (each view made); next = now } ≡ whole
row_whole view f from whole xs made j now first le is h = ap (with_first from) (row_done view f (in_row f (each view xs) first) xs made j now le h) ∙ is

-- ---- the same, of what stands for the lists

pub exprs_row : (es : List plain.Expr) (n : ℕ) → over_one exprs_from (in_row number_expr es) n ≡ number_exprs (exprs_from es) n
exprs_row [] n = refl
exprs_row (e ∷ es) n = ap (with_first (plain.an_expr (number_expr e n).result)) (exprs_row es (number_expr e n).next)

pub entries_row : (es : List Entry) (n : ℕ) → over_one entries_from (in_row number_entry es) n ≡ number_entries (entries_from es) n
entries_row [] n = refl
entries_row (e ∷ es) n =
    let key = number_expr e.key n in
    let value = number_expr e.value key.next in
    ap (with_first (plain.an_entry key.result value.result)) (entries_row es value.next)

pub clauses_row : (cs : List Clause) (n : ℕ) → over_one clauses_from (in_row number_clause cs) n ≡ number_clauses (clauses_from cs) n
clauses_row [] n = refl
clauses_row (for_part t m ∷ cs) n =
    let target = number_expr t n in
    let members = number_expr m target.next in
    ap (with_first (plain.for_clause target.result members.result)) (clauses_row cs members.next)
clauses_row (if_part e ∷ cs) n = ap (with_first (plain.if_clause (number_expr e n).result)) (clauses_row cs (number_expr e n).next)

pub pieces_row : (ps : List Piece) (n : ℕ) → over_one pieces_from (in_row number_piece ps) n ≡ number_pieces (pieces_from ps) n
pieces_row [] n = refl
pieces_row (written_part t ∷ ps) n = ap (with_first (plain.text_piece t)) (pieces_row ps n)
pieces_row (expr_part e ∷ ps) n = ap (with_first (plain.expr_piece (number_expr e n).result)) (pieces_row ps (number_expr e n).next)

pub parameters_row : (ps : List Parameter) (n : ℕ) → over_one parameters_from (in_row number_parameter ps) n ≡ number_parameters (parameters_from ps) n
parameters_row [] n = refl
parameters_row (named_part x ∷ ps) n = ap (with_first (plain.required x)) (parameters_row ps n)
parameters_row (default_part x e ∷ ps) n = ap (with_first (plain.defaulted x (number_expr e n).result)) (parameters_row ps (number_expr e n).next)
parameters_row (bare_part ∷ ps) n = ap (with_first plain.bare_star) (parameters_row ps n)
parameters_row (star_part x ∷ ps) n = ap (with_first (plain.starred_parameter x)) (parameters_row ps n)
parameters_row (stars_part x ∷ ps) n = ap (with_first (plain.double_starred_parameter x)) (parameters_row ps n)
