-- What one row puts.
use Rattle.std.proofs.Common.{◌≡◌, ℕ, ◌+◌, ◌<◌, ◌≤◌, List, [], ◌∷◌, ◌++◌, length, drop, get_or, reverse, refl, ap, sym, ◌∙◌, append_assoc}
use Rattle.std.proofs.lemmas.List.{drop_all, drop_more, reverse-append, reverse-reverse}
use Rattle.notes_read.specs.declared.comment.Comment.{Comment}
use Rattle.notes_read.specs.View.{said_of}
use Rattle.template_events.specs.declared.event.Row.{Row}
use Rattle.template_events.specs.View.{row_of, rows_of}
use Rattle.template_pass.specs.Building.{Before, Put, put_mark, waiting}
use Rattle.template_tree.specs.Marked.{put_at, puts_at, said_at}

pub put_one : (file d : ℕ) (ds : List ℕ) (left left2 : List Row) (row : Row) (ns ns2 : List Before) (ps ps2 : List Put) → left ≡ left2 ++ row ∷ []
    → ps2 ≡ ps ++ put_at d ns (row_of file row) → ns2 ≡ waiting ns (row_of file row)
    → ps2 ++ puts_at ds ns2 (rows_of file (reverse left2)) ≡ ps ++ puts_at (d ∷ ds) ns (rows_of file (reverse left))
put_one file d ds left left2 row ns ns2 ps ps2 e f g =
    let rest = rows_of file (reverse left2) in
    (λ i. f i ++ puts_at ds (g i) rest) ∙ append_assoc ps (put_at d ns (row_of file row)) (puts_at ds (waiting ns (row_of file row)) rest)
    ∙ ap (λ (rs : List Row). ps ++ puts_at (d ∷ ds) ns (rows_of file rs)) (sym (reverse-append left2 (row ∷ [])) ∙ ap reverse (sym e))

none_put : (ds : List ℕ) (ns : List Before) → puts_at ds ns [] ≡ []
none_put [] ns = refl
none_put (d ∷ ds) ns = refl

pub put_none : (file d : ℕ) (ds : List ℕ) (left left2 : List Row) (ns : List Before) (ps : List Put) → left ≡ [] → left2 ≡ []
    → ps ++ puts_at ds ns (rows_of file (reverse left2)) ≡ ps ++ puts_at (d ∷ ds) ns (rows_of file (reverse left))
put_none file d ds left left2 ns ps e f =
    ap (λ (rs : List Row). ps ++ puts_at ds ns (rows_of file (reverse rs))) f ∙ ap (λ (qs : List Put). ps ++ qs) (none_put ds ns)
    ∙ ap (λ (rs : List Row). ps ++ puts_at (d ∷ ds) ns (rows_of file (reverse rs))) (sym e)

pub level_at : (levels : List ℕ) (at : ℕ) (d : ℕ) → at < length levels → drop at levels ≡ get_or levels at d ∷ drop (at + 1) levels
level_at levels at d within = drop_more levels at d within

append_nil : (ps : List Put) → ps ++ [] ≡ ps
append_nil [] = refl
append_nil (p ∷ ps) = ap (λ qs. p ∷ qs) (append_nil ps)

pub puts_end : (file : ℕ) (levels : List ℕ) (at : ℕ) (ns : List Before) (left rows turned : List Row) (ps : List Put) → length levels ≤ at → turned ≡ reverse rows
    → ps ++ puts_at (drop at levels) ns (rows_of file (reverse left)) ≡ puts_at levels [] (rows_of file (reverse turned)) → ps ≡ puts_at levels [] (rows_of file rows)
puts_end file levels at ns left rows turned ps past e h =
    sym (append_nil ps) ∙ ap (λ (ds : List ℕ). ps ++ puts_at ds ns (rows_of file (reverse left))) (sym (drop_all at levels past)) ∙ h
    ∙ ap (λ (rs : List Row). puts_at levels [] (rows_of file rs)) (ap reverse e ∙ reverse-reverse rows)

-- a statement, an opener, a branch or an end is put where it is said
pub mark_put : (file d l : ℕ) (old new : List Put) (mark comment : Comment) → comment ≡ mark → said_at d l (said_of file mark) ≡ put_mark d l (said_of file mark) ∷ [] → new ≡ old ++ put_mark d l (said_of file mark) ∷ []
    → new ≡ old ++ said_at d l (said_of file comment)
mark_put file d l old new mark comment e said h = h ∙ ap (λ (ps : List Put). old ++ ps) (sym said) ∙ ap (λ (c : Comment). old ++ said_at d l (said_of file c)) (sym e)
