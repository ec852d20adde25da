-- What a comment says, branch by branch.
use Rattle.std.proofs.Common.{◌≡◌, ℕ, List, [], ◌∷◌, drop, length, Bool, true, false, ◌==◌, ◌&&◌, Result, Err, refl, sym, ap, ◌∙◌, subst, codes, arith}
use Rattle.std.proofs.lemmas.Bool.{and_parts, eqb-true}
use Rattle.ytt_base.specs.declared.fault.FaultKind.TheVariants as kind
use Rattle.ytt_base.specs.declared.fault.Place.{Place}
use Rattle.ytt_base.specs.declared.fault.Stop.{Stop}
use Rattle.ytt_base.specs.declared.fault.Stop.TheVariants as stop
use Rattle.ytt_base.specs.Outcomes.{Gives, Outcome, fault_at}
use Rattle.yaml_spec.specs.Bytes.{is_empty, is_word}
use Rattle.yaml_spec.specs.Noted.{Comment, is_note, is_code, code_in}
use Rattle.code_spec.specs.CodeReading.{CodeReader}
use Rattle.star_tree.specs.declared.code.Expr.{Expr}
use Rattle.star_tree.specs.Whole.{exprs_of}
use Rattle.template_spec.specs.Comments.{Said, begins, name_in, arguments_in, note_names, is_bare_note, note_with, known_said, note_said, code_said, marked_said, comment_said}
use Rattle.notes_read.specs.declared.comment.Comment as held
use Rattle.notes_read.specs.View.{said_of}
use Rattle.notes_read.proofs.Gives.{if_so, if_not}

-- what a call gives of a comment in this file
abbrev Gave : ℕ → Result held.Comment Stop → Outcome Said → Type 0
Gave file res o = Gives (said_of file) res o

pub bare_refused : (file : ℕ) (p : Place) (x : List ℕ) (es : List Expr) (s : Stop) → (length es == 0) ≡ false → is_bare_note x ≡ true → s ≡ stop.Fault (fault_at kind.NoteForm p)
    → Gave file (Err s) (note_with p x (exprs_of file es))
bare_refused file p x [] s some bare e = cc
bare_refused file p x (a ∷ es) s some bare e = subst (λ (t : Stop). Gave file (Err t) (note_with p x (exprs_of file (a ∷ es)))) (sym e) (rw bare)

no_bytes : (t : List ℕ) → is_empty t ≡ (length t == 0)
no_bytes [] = refl
no_bytes (b ∷ bs) = grind arith

pub known_note : (file : ℕ) (r : CodeReader) (p : Place) (text name arguments : List ℕ) (res : Result held.Comment Stop) → (length text == 0) ≡ false → name ≡ name_in text → is_word note_names name ≡ true
    → arguments ≡ arguments_in text → Gave file res (known_said r p name arguments) → Gave file res (note_said r p text)
known_note file r p text name arguments res some e known f g =
    let n : is_word note_names (name_in text) ≡ true = ap (is_word note_names) (sym e) ∙ known in
    let h : Gave file res (known_said r p (name_in text) (arguments_in text)) = subst (λ a. Gave file res (known_said r p (name_in text) a)) f (subst (λ x. Gave file res (known_said r p x arguments)) e g) in
    if_not (said_of file) res (is_empty text) _ _ (no_bytes text ∙ some) (if_so (said_of file) res (is_word note_names (name_in text)) _ _ n h)

pub marked_note : (file : ℕ) (r : CodeReader) (p : Place) (own : Bool) (text marked : List ℕ) (res : Result held.Comment Stop) → is_code text ≡ false → marked ≡ drop 2 text
    → Gave file res (note_said r p marked) → Gave file res (marked_said r p own text)
marked_note file r p own text marked res none e g = if_not (said_of file) res (is_code text) _ _ none (subst (λ t. Gave file res (note_said r p t)) e g)

pub marked_alone : (file : ℕ) (r : CodeReader) (p : Place) (own : Bool) (text code : List ℕ) (res : Result held.Comment Stop) → is_code text ≡ true → own ≡ true → code ≡ code_in text
    → Gave file res (code_said r p code) → Gave file res (marked_said r p own text)
marked_alone file r p own text code res some o e g =
    if_so (said_of file) res (is_code text) _ _ some (if_so (said_of file) res own _ _ o (subst (λ t. Gave file res (code_said r p t)) e g))

mark_begins : (t : List ℕ) → begins t (codes "#@") ≡ true → is_note t ≡ true
mark_begins [] e = cc
mark_begins (a ∷ []) e = let h = and_parts (35 == a) false e in cc (h.1)
mark_begins (a ∷ b ∷ t) e =
    let h = and_parts (35 == a) ((64 == b) && true) e in
    let k = and_parts (64 == b) true h.1 in
    let p : a ≡ 35 = sym (eqb-true 35 a h.0) in
    let q : b ≡ 64 = sym (eqb-true 64 b k.0) in
    rw (p, q)

pub said_marked : (file : ℕ) (r : CodeReader) (ignore : Bool) (p : Place) (c : Comment) (res : Result held.Comment Stop) → begins c.text (codes "#@") ≡ true
    → Gave file res (marked_said r p c.own_line c.text) → Gave file res (comment_said r ignore p c)
unfolding comment_said
said_marked file r ignore p c res e g = if_so (said_of file) res (is_note c.text) _ _ (mark_begins c.text e) g
