-- What is kept while a text is cut into lines.
use Rattle.std.proofs.Common.{◌≡◌, ℕ, ◌+◌, ◌≤◌, ◌<◌, Bool, true, false, List, [], ◌∷◌, ◌++◌, length, refl, ap, sym, ◌∙◌, arith, if◌then◌else◌, Option, Some, None, Ok, Err, append_assoc}
use Rattle.std.proofs.lemmas.List.{append-nil}
use Rattle.std.proofs.lemmas.List.Elements.{All-nil, All-push}
use Rattle.std.proofs.lemmas.Str.{IsUtf8-from_is_utf8, is_utf8-from_IsUtf8}
use Rattle.std.specs.Str.{IsUtf8, is_utf8}
use Rattle.ytt_base.specs.declared.fault.Fault.{Fault}
use Rattle.ytt_base.specs.declared.fault.FaultKind.TheVariants as kind
use Rattle.ytt_base.specs.declared.fault.Place.{Place}
use Rattle.ytt_base.specs.declared.fault.Stop.{Stop}
use Rattle.ytt_base.specs.declared.fault.Stop.TheVariants as stop
use Rattle.ytt_base.specs.declared.line.Line as held
use Rattle.ytt_base.specs.Outcomes.{Gives, Outcome, fault_at, place_at}
use Rattle.yaml_spec.specs.Lines.{Line, Lines, checked, cut, first_failing, has_good_chars, lines_of, numbered, skip_mark}
use Rattle.yaml_spec.specs.Held.{plain_line, plain_lines}
use Rattle.yaml_spec.specs.Indents.{HaveIndents, HasIndent}
use Rattle.yaml_spec.specs.Refusals.{refused}
use Rattle.yaml_lines.specs.Utf8.{utf8_line, utf8_lines}
use Rattle.yaml_lines.proofs.Breaks.{cut-empty}

-- these lines are cut off before this one, and each is UTF-8
pub record IsCutting (file : ℕ) (bytes : List ℕ) (lines : List held.Line) (number : ℕ) (rest : List ℕ) : Type 0 where
  pub split : lines_of file bytes ≡ plain_lines lines ++ numbered (place_at file number) (cut rest)
  pub utf8 : first_failing is_utf8 (plain_lines lines) ≡ None
  pub indents : HaveIndents lines
  pub from_one : 1 ≤ number
  pub counted : number + length rest ≤ length bytes + 1

-- ---- one line

pub utf8_line-taken : (place : Place) (bs : List ℕ) → IsUtf8 bs → utf8_line place bs ≡ Ok (record { place = place; text = bs })
utf8_line-taken place bs h = rw (is_utf8-from_IsUtf8 bs h) refl

refused_by : (b : Bool) (place : Place) (bs : List ℕ) → (b ≡ true → ⊥) → (if b then Ok (record { place = place; text = bs }) else refused {A = Line} kind.NotUtf8 place) ≡ refused kind.NotUtf8 place
refused_by true place bs h = absurd (h refl)
refused_by false place bs h = refl

pub utf8_line-refused : (place : Place) (bs : List ℕ) → (IsUtf8 bs → ⊥) → utf8_line place bs ≡ refused kind.NotUtf8 place
utf8_line-refused place bs h = refused_by (is_utf8 bs) place bs (λ e. h (IsUtf8-from_is_utf8 bs e))

pub ruleset utf8_tests = (utf8_line-taken, utf8_line-refused)

-- ---- lines one behind another

plain_lines-snoc : (ls : List held.Line) (l : held.Line) → plain_lines (ls ++ l ∷ []) ≡ plain_lines ls ++ plain_line l ∷ []
plain_lines-snoc [] l = refl
plain_lines-snoc (k ∷ ls) l = ap (λ ms. plain_line k ∷ ms) (plain_lines-snoc ls l)

abbrev or_failing : Bool → Line → Option Place → Option Place
or_failing passes l rest = elim passes [ true ↦ rest | false ↦ Some l.place ]

passing : (b : Bool) (l : Line) (o p q : Option Place) → or_failing b l o ≡ None → (o ≡ None → p ≡ q) → or_failing b l p ≡ q
passing true l o p q h e = e h
passing false l o p q h e = cc

-- a test that fails nowhere in the first lines fails where it does in the others
first_failing-append : (test : List ℕ → Bool) (ls ms : List Line) → first_failing test ls ≡ None → first_failing test (ls ++ ms) ≡ first_failing test ms
first_failing-append test [] ms h = refl
first_failing-append test (l ∷ ls) ms h = passing (test l.text) l _ _ _ h (first_failing-append test ls ms)

joined : (test : List ℕ → Bool) (ls ms : List Line) (o : Option Place) → first_failing test ls ≡ None → first_failing test ms ≡ o → first_failing test (ls ++ ms) ≡ o
joined test ls ms o h e = first_failing-append test ls ms h ∙ e

at_failing : (l : Line) (ms : List Line) → is_utf8 l.text ≡ false → first_failing is_utf8 (l ∷ ms) ≡ Some l.place
at_failing l ms e = ap (λ b. or_failing b l (first_failing is_utf8 ms)) e

abbrev utf8_by : Option Place → List Line → Outcome (List Line)
utf8_by failing ls = elim failing [ Some p ↦ refused kind.NotUtf8 p | None ↦ Ok ls ]

utf8_lines-by : (ls : List Line) (o : Option Place) → first_failing is_utf8 ls ≡ o → utf8_lines ls ≡ utf8_by o ls
utf8_lines-by ls o e = ap (λ (p : Option Place). utf8_by p ls) e

-- ---- the turns of the loop

pub start : (file : ℕ) (bytes rest : List ℕ) → rest ≡ skip_mark bytes → length rest ≤ length bytes → IsCutting file bytes [] 1 rest
unfolding lines_of
start file bytes rest e h = record { split = rw e refl; utf8 = refl; indents = All-nil HasIndent; from_one = omega arith; counted = omega arith }

refusal_is : (b : Bool) (place : Place) (bs : List ℕ) (f : Fault) → (if b then Ok (record { place = place; text = bs }) else refused {A = Line} kind.NotUtf8 place) ≡ Err f
    → (b ≡ false) × (fault_at kind.NotUtf8 place ≡ f)
refusal_is true place bs f h = cc
refusal_is false place bs f h = (refl, cc)

pub stopped : (file : ℕ) (bytes : List ℕ) (lines : List held.Line) (number : ℕ) (rest text others : List ℕ) (s : Stop) → IsCutting file bytes lines number rest
    → cut rest ≡ text ∷ cut others → Gives plain_line (Err s) (utf8_line (place_at file number) text) → Gives plain_lines (Err s) (utf8_lines (lines_of file bytes))
stopped file bytes lines number rest text others (stop.Fault f) k e h =
    let r = refusal_is (is_utf8 text) (place_at file number) text f h in
    let p : first_failing is_utf8 (lines_of file bytes) ≡ Some (place_at file number) =
    rw (k.split, e) (joined is_utf8 (plain_lines lines) _ _ k.utf8 (at_failing (record { place = place_at file number; text = text }) _ r.0)) in
    utf8_lines-by (lines_of file bytes) _ p ∙ ap Err r.1
stopped file bytes lines number rest text others stop.Memory k e h = tt

taken_is : (b : Bool) (place : Place) (bs : List ℕ) (l : Line) → (if b then Ok (record { place = place; text = bs }) else refused {A = Line} kind.NotUtf8 place) ≡ Ok l
    → (b ≡ true) × (record { place = place; text = bs } ≡ l)
taken_is true place bs l h = (refl, cc)
taken_is false place bs l h = cc

utf8-snoc : (ls : List Line) (l : Line) → first_failing is_utf8 ls ≡ None → is_utf8 l.text ≡ true → first_failing is_utf8 (ls ++ l ∷ []) ≡ None
utf8-snoc ls l h e = joined is_utf8 ls (l ∷ []) None h (ap (λ b. or_failing b l None) e)

pub taken : (file : ℕ) (bytes : List ℕ) (lines after : List held.Line) (number : ℕ) (rest text others : List ℕ) (l : held.Line) → IsCutting file bytes lines number rest
    → cut rest ≡ text ∷ cut others → utf8_line (place_at file number) text ≡ Ok (plain_line l) → HasIndent l → length others < length rest → after ≡ lines ++ l ∷ []
    → IsCutting file bytes after (number + 1) others
taken file bytes lines after number rest text others l k e h i lt a =
    let r = taken_is (is_utf8 text) (place_at file number) text (plain_line l) h in
    let t : text ≡ l.text = ap (λ (m : Line). m.text) r.1 in
    record {
      split = rw (a, plain_lines-snoc lines l, append_assoc) (k.split ∙ rw e (ap (λ (m : Line). plain_lines lines ++ m ∷ numbered (place_at file (number + 1)) (cut others)) r.1));
      utf8 = rw (a, plain_lines-snoc lines l) (utf8-snoc (plain_lines lines) (plain_line l) k.utf8 (rw (← t) r.0));
      indents = rw a (All-push HasIndent lines l k.indents i);
      from_one = omega arith;
      counted = omega (arith, k.counted);
    }

pub ended : (file : ℕ) (bytes : List ℕ) (lines : List held.Line) (number : ℕ) (rest : List ℕ) → IsCutting file bytes lines number rest → length rest ≡ 0
    → utf8_lines (lines_of file bytes) ≡ Ok (plain_lines lines)
ended file bytes lines number rest k h =
    let s : lines_of file bytes ≡ plain_lines lines = k.split ∙ rw (cut-empty rest h) (append-nil (plain_lines lines)) in
    ap utf8_lines s ∙ utf8_lines-by (plain_lines lines) None k.utf8

-- ---- the characters

abbrev checked_by : Option Place → Option Place → List Line → Outcome (List Line)
checked_by wrong bad ls = elim wrong [
  | Some p ↦ refused kind.NotUtf8 p
  | None ↦ elim bad [ Some p ↦ refused kind.BadChar p | None ↦ Ok ls ]
]

Lines-by : (file : ℕ) (bytes : List ℕ) → Lines file bytes ≡ checked_by (first_failing is_utf8 (lines_of file bytes)) (first_failing has_good_chars (lines_of file bytes)) (lines_of file bytes)
unfolding Lines checked
Lines-by file bytes = refl

refused_as : (o bad : Option Place) (ls : List Line) (f : Fault) → utf8_by o ls ≡ Err f → checked_by o bad ls ≡ Err f
refused_as (Some p) bad ls f h = h
refused_as None bad ls f h = cc

pub lines-refused : (file : ℕ) (bytes : List ℕ) (s : Stop) → Gives plain_lines (Err s) (utf8_lines (lines_of file bytes)) → Gives plain_lines (Err s) (Lines file bytes)
lines-refused file bytes (stop.Fault f) h =
    Lines-by file bytes ∙ refused_as _ _ (lines_of file bytes) f (sym (utf8_lines-by (lines_of file bytes) _ refl) ∙ h)
lines-refused file bytes stop.Memory h = tt

passed_as : (o : Option Place) (ls ms : List Line) → utf8_by o ls ≡ Ok ms → checked_by o (first_failing has_good_chars ls) ls ≡ checked_by None (first_failing has_good_chars ms) ms
passed_as (Some p) ls ms h = cc
passed_as None ls ms h = let e : ls ≡ ms = cc in ap (λ (ns : List Line). checked_by None (first_failing has_good_chars ns) ns) e

Lines-of_utf8 : (file : ℕ) (bytes : List ℕ) (ls : List Line) → utf8_lines (lines_of file bytes) ≡ Ok ls → Lines file bytes ≡ checked_by None (first_failing has_good_chars ls) ls
Lines-of_utf8 file bytes ls h = Lines-by file bytes ∙ passed_as _ (lines_of file bytes) ls (sym (utf8_lines-by (lines_of file bytes) _ refl) ∙ h)

pub lines-bad : (file : ℕ) (bytes : List ℕ) (ls : List Line) (p : Place) → utf8_lines (lines_of file bytes) ≡ Ok ls → Some p ≡ first_failing has_good_chars ls
    → Lines file bytes ≡ Err (fault_at kind.BadChar p)
lines-bad file bytes ls p h e = Lines-of_utf8 file bytes ls h ∙ ap (λ (o : Option Place). checked_by None o ls) (sym e)

pub lines-good : (file : ℕ) (bytes : List ℕ) (ls : List Line) → utf8_lines (lines_of file bytes) ≡ Ok ls → None ≡ first_failing has_good_chars ls → Lines file bytes ≡ Ok ls
lines-good file bytes ls h e = Lines-of_utf8 file bytes ls h ∙ ap (λ (o : Option Place). checked_by None o ls) (sym e)

pub ruleset cutting = (start, stopped, ended)

pub ruleset checking = (lines-refused, lines-bad, lines-good)
