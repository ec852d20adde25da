-- One pass over the lines of a document, with a stack of open blocks, reads what the definition reads.
use Rattle.std.proofs.Common.{◌≡◌, ℕ, zero, suc, ◌+◌, ◌-◌, Bool, true, false, not, ◌&&◌, ◌||◌, ◌==◌, List, [], ◌∷◌, ◌++◌, Option, Ok, Err, refl, sym, ◌∙◌, ap, subst, arith, if◌then◌else◌}
use Rattle.yaml_spec.specs.Bytes.{hash, first, is_blank, skip_white}
use Rattle.ytt_base.specs.declared.fault.FaultKind.TheVariants as kind
use Rattle.ytt_base.specs.Outcomes.{Outcome, ◌>>=◌}
use Rattle.yaml_spec.specs.Refusals.{refused}
use Rattle.yaml_spec.specs.Lines.{Line}
use Rattle.ytt_base.specs.Trees.{max_depth}
use Rattle.yaml_spec.specs.Plain.{typed}
use Rattle.yaml_spec.specs.Noted.{Comment}
use Rattle.yaml_spec.specs.Values.{Value}
use Rattle.yaml_spec.specs.Rows.{Mark, dash_mark, key_mark, Head, Row, has_value, row_value, row_at, taken, rows}
use Rattle.yaml_spec.specs.Entries.{is_dash_mark, starts_with_dash, misplaced, begins_entry, row_comment, behind_head, stray, Found, content_of, Doc}
use Rattle.yaml_pass.proofs.Depth.{grows_row}
use Rattle.yaml_pass.specs.Machine.{Frame, Hole, wanting, filled, Begun, Opened, begin_content, begin_entry, begin_at, opens, step, run, Passed, own_comment, pass}
use Rattle.ytt_laws.proofs.Chains.{then_alike, then_assoc}
use Rattle.yaml_pass.proofs.Stack.{run-content_of}
use Rattle.std.specs.Result.{IfOk}
use Rattle.std.proofs.lemmas.Result.{IfOk-at_ok}
use Rattle.ytt_laws.proofs.Yielded.{yielded_behind, yielded_either, yielded_itself, yielded_then}

-- ---- a row that the stack takes is a row that is read to its end

pub Fits : ℕ → Type 0
Fits left = (k : ℕ) × (k + left ≡ max_depth)

fits_below : (left : ℕ) → Fits (suc left) → Fits left
unfolding Fits
fits_below left f = (suc f.0, omega (arith, f.1))

pub AllFit : List Frame → Type 0
AllFit [] = Unit {0}
AllFit (f ∷ fs) = Fits f.left × AllFit fs

Taken : Row → Type 0
Taken r = (e : ℕ × List Comment) × (taken r ≡ Ok e)

value_taken : (left : ℕ) → Fits left → (r : Row) (v : Value) → row_value left r ≡ Ok v → Taken r
unfolding Fits Taken taken
value_taken left f r v e = by_value (has_value r)
  where
    full : row_value max_depth r ≡ Ok v
    full = subst (λ (n : ℕ). row_value n r ≡ Ok v) f.1 (grows_row f.0 left r v e)

    by_value : (b : Bool) → (x : ℕ × List Comment) × (elim b as (λ _. Outcome (ℕ × List Comment)) [ true ↦ row_value max_depth r >>= (λ v. Ok (v.last - r.place.line, v.loose)) | false ↦ Ok (0, []) ] ≡ Ok x)
    by_value true = ((v.last - r.place.line, v.loose), ap (λ (o : Outcome Value). o >>= (λ v. Ok (v.last - r.place.line, v.loose))) full)
    by_value false = ((0, []), refl)

content_taken : (left : ℕ) → Fits left → (r : Row) → IfOk (begin_content left r) (λ (b : Option Comment × Hole). Taken r)
unfolding Taken taken
content_taken left f r = by_value (has_value r) refl
  where
    by_value : (b : Bool) → has_value r ≡ b →
        IfOk (elim b as (λ _. Outcome (Option Comment × Hole)) [ true ↦ row_value left r >>= (λ v. Ok (v.trailing, filled (v.content, v.trailing))) | false ↦ Ok (row_comment r, wanting) ]) (λ _. Taken r)
    by_value true e = yielded_then (λ v. row_value left r ≡ Ok v) _ (row_value left r) _ (yielded_itself (row_value left r)) (λ v p. value_taken left f r v p)
    by_value false e = ((0, []), rw (e, taken) refl)

-- a row's value does not depend on which of its heads are passed
taken-behind : (r : Row) (h : Head) (hs : List Head) → r.heads ≡ h ∷ hs → (n : ℕ) (i : Head) (is : List Head) → taken (behind_head n (i ∷ is) r) ≡ taken r
unfolding taken
taken-behind r h hs e n i is = rw e refl

taken_from : (r : Row) (h : Head) (hs : List Head) → r.heads ≡ h ∷ hs → (n : ℕ) (i : Head) (is : List Head) → Taken (behind_head n (i ∷ is) r) → Taken r
unfolding Taken
taken_from r h hs e n i is t = (t.0, sym (taken-behind r h hs e n i is) ∙ t.1)

-- what an entry or a block that has begun says of its row
EntryOk : Row → Begun → Type 0
EntryOk r b = Taken r × AllFit b.1

BlockOk : Row → Opened → Type 0
BlockOk r o = Taken r × AllFit (o.0 ∷ o.1)

OpensOk : ℕ → Type 0
OpensOk left = (n : ℕ) (r : Row) (h : Head) (hs : List Head) → r.heads ≡ h ∷ hs → IfOk (opens left n r) (BlockOk r)

entry_ok : (left : ℕ) → Fits left → OpensOk left → (r : Row) (m : Mark) (h : Head) (hs : List Head) → r.heads ≡ h ∷ hs → IfOk (begin_entry left (opens left) r m hs) (EntryOk r)
unfolding EntryOk BlockOk AllFit OpensOk
entry_ok left f block r (key_mark k) h hs e =
    yielded_behind _ (typed r.place k) _ (λ s.
    yielded_then (λ b. Taken r) _ (begin_content left r) _ (content_taken left f r) (λ b t. (t, tt)))
entry_ok left f block r dash_mark h [] e = yielded_then (λ b. Taken r) _ (begin_content left r) _ (content_taken left f r) (λ b t. (t, tt))
entry_ok left f block r dash_mark h (i ∷ is) e =
    yielded_then (BlockOk (behind_head i.column (i ∷ is) r)) _ (opens left i.column (behind_head i.column (i ∷ is) r)) _
    (block i.column (behind_head i.column (i ∷ is) r) i is refl)
    (λ o t. (taken_from r h (i ∷ is) e i.column i is t.0, t.1))

at_ok : (left : ℕ) → Fits left → OpensOk left → (is_list : Bool) (n : ℕ) (r : Row) → IfOk (begin_at left (opens left) is_list n r) (EntryOk r)
at_ok left f block is_list n r = by_heads r.heads refl
  where
    by_heads : (heads : List Head) → r.heads ≡ heads → IfOk (elim heads as (λ _. Outcome Begun) [
      | [] ↦ refused (if r.indent == n then stray r else kind.YamlForm) r.place
      | h ∷ hs ↦ elim (not h.has_tab && r.indent == n && ((is_list && is_dash_mark h.mark) || (not is_list && not (is_dash_mark h.mark)))) [
        | true ↦ begin_entry left (opens left) r h.mark hs
        | false ↦ misplaced r kind.YamlForm
      ]
    ]) (EntryOk r)
    by_heads [] e = tt
    by_heads (h ∷ hs) e = yielded_either _ (not h.has_tab && r.indent == n && ((is_list && is_dash_mark h.mark) || (not is_list && not (is_dash_mark h.mark)))) _ _ (entry_ok left f block r h.mark h hs e) tt

opens_ok : (left : ℕ) → Fits left → OpensOk left
unfolding OpensOk BlockOk EntryOk AllFit
opens_ok zero f n r h hs e = tt
opens_ok (suc left) f n r h hs e =
    let g : Fits left = fits_below left f in
    yielded_then (EntryOk r) (BlockOk r) (begin_at left (opens left) (starts_with_dash r) n r) _ (at_ok left g (opens_ok left g) (starts_with_dash r) n r)
    (λ b t. (t.0, (g, t.1)))

-- the row that the stack takes is read to its end, and the stack goes on in bounds
StepOk : Row → List Frame × Hole → Type 0
StepOk r s = Taken r × AllFit s.0

step_ok : (left : ℕ) → Fits left → (fs : List Frame) → AllFit fs → (h : Hole) (r : Row) → IfOk (step left fs h r) (StepOk r)
unfolding StepOk AllFit EntryOk BlockOk OpensOk
step_ok left f [] a (filled x) r = tt
step_ok left f [] a wanting r = by_heads r.heads refl
  where
    by_heads : (heads : List Head) → r.heads ≡ heads → IfOk (elim heads as (λ _. Outcome (List Frame × Hole)) [
      | [] ↦ row_value left r >>= (λ v. Ok ([], filled (v.content, v.trailing)))
      | h ∷ hs ↦ opens left r.indent r >>= (λ o. Ok (o.0 ∷ o.1, o.2))
    ]) (StepOk r)
    by_heads [] e = yielded_then (λ v. row_value left r ≡ Ok v) _ (row_value left r) _ (yielded_itself (row_value left r)) (λ v p. (value_taken left f r v p, tt))
    by_heads (h ∷ hs) e = yielded_then (BlockOk r) _ (opens left r.indent r) _ (opens_ok left f r.indent r h hs e) (λ o t. t)
step_ok left f (g ∷ gs) a h r =
    yielded_either (StepOk r) (begins_entry g.is_list g.indent r) _ _
    (yielded_then (EntryOk r) (StepOk r) (begin_at g.left (opens g.left) g.is_list g.indent r) _ (at_ok g.left a.0 (opens_ok g.left a.0) g.is_list g.indent r)
    (λ b t. (t.0, (a.0, t.1))))
    (yielded_then (StepOk r) (StepOk r) (step g.left gs h r) _ (step_ok g.left a.0 gs a.1 h r) (λ s t. (t.0, (a.0, t.1))))

-- ---- the pass over the lines

abbrev pub with_comments : List Comment → Found → Outcome Passed
with_comments cs f = Ok (f, cs)

abbrev pub run_rows : List Frame → Hole → List Row × List Comment → Outcome Passed
run_rows fs h rs = run max_depth fs h rs.0 >>= with_comments rs.1

max_fits : Fits max_depth
unfolding Fits
max_fits = (0, refl)

-- a row, where the lines after it are passed in the same way
module _ (stop : ℕ) (ls : List Line) (r : Row)
    (next : (skip : ℕ) (cs : List Comment) (fs : List Frame) → AllFit fs → (h : Hole) → pass stop false skip r.least cs fs h ls ≡ run_rows fs h (rows stop false skip r.least cs ls)) where
  by_taken : (fs : List Frame) → AllFit fs → (h : Hole) (t : Outcome (ℕ × List Comment)) → taken r ≡ t →
      step max_depth fs h r >>= (λ s. t >>= (λ e. pass stop false e.0 r.least e.1 s.0 s.1 ls))
      ≡ run_rows fs h (elim t as (λ _. List Row × List Comment) [
        | Ok e ↦ (r ∷ (rows stop false e.0 r.least e.1 ls).0, (rows stop false e.0 r.least e.1 ls).1)
        | Err e ↦ (r ∷ [], [])
      ])
  unfolding StepOk Taken
  by_taken fs a h (Ok e) q =
      then_alike (step max_depth fs h r) _ _ (λ s p. next e.0 e.1 s.0 (IfOk-at_ok (StepOk r) p (step_ok max_depth max_fits fs a h r)).1 s.1)
      ∙ sym (then_assoc (step max_depth fs h r) (λ s. run max_depth s.0 s.1 (rows stop false e.0 r.least e.1 ls).0) (with_comments (rows stop false e.0 r.least e.1 ls).1))
  by_taken fs a h (Err d) q =
      then_alike (step max_depth fs h r) _ _ (λ s p. let t : Taken r = (IfOk-at_ok (StepOk r) p (step_ok max_depth max_fits fs a h r)).0 in wrong t.0 (sym q ∙ t.1))
      ∙ sym (then_assoc (step max_depth fs h r) (λ s. run max_depth s.0 s.1 []) (with_comments []))
    where
      wrong : {x y : Outcome Passed} (t : ℕ × List Comment) → ◌≡◌ {A = Outcome (ℕ × List Comment)} (Err d) (Ok t) → x ≡ y
      wrong t e = cc

pub pass-rows : (stop : ℕ) (is_owned : Bool) (skip least : ℕ) (cs : List Comment) (fs : List Frame) → AllFit fs → (h : Hole) (ls : List Line) →
    pass stop is_owned skip least cs fs h ls ≡ run_rows fs h (rows stop is_owned skip least cs ls)
unfolding rows
pass-rows stop o skip least cs fs a h [] = refl
pass-rows stop o (suc skip) least cs fs a h (l ∷ ls) = pass-rows stop o skip least cs fs a h ls
pass-rows stop o zero least cs fs a h (l ∷ ls) =
    by_line _ _ _ _ _ _ (is_blank l.text) (first (skip_white l.text) == hash) (pass-rows stop o zero least cs fs a h ls) (pass-rows stop o zero least (cs ++ own_comment l ∷ []) fs a h ls)
    (by_taken stop ls (row_at stop o least cs l ls) (λ k ds gs b i. pass-rows stop false k (row_at stop o least cs l ls).least ds gs b i ls) fs a h (taken (row_at stop o least cs l ls)) refl)
  where
    by_line : (p q s : Outcome Passed) (x y z : List Row × List Comment) (a b : Bool) → p ≡ run_rows fs h x → q ≡ run_rows fs h y → s ≡ run_rows fs h z →
        elim a as (λ _. Outcome Passed) [ true ↦ p | false ↦ elim b as (λ _. Outcome Passed) [ true ↦ q | false ↦ s ] ]
        ≡ run_rows fs h (elim a as (λ _. List Row × List Comment) [ true ↦ x | false ↦ elim b as (λ _. List Row × List Comment) [ true ↦ y | false ↦ z ] ])
    by_line u v w x y z true b p q s = p
    by_line u v w x y z false true p q s = q
    by_line u v w x y z false false p q s = s

-- the same where no block is open
pub pass-from : (stop : ℕ) (is_owned : Bool) (skip least : ℕ) (cs : List Comment) (h : Hole) (ls : List Line) →
    pass stop is_owned skip least cs [] h ls ≡ run_rows [] h (rows stop is_owned skip least cs ls)
unfolding AllFit
pass-from stop o skip least cs h ls = pass-rows stop o skip least cs [] none h ls
  where
    none : AllFit []
    none = tt

-- The lines of a document, gone over once with a stack, have the content that cutting them top down gives.
pub pass-content_of : (stop : ℕ) (is_owned : Bool) (cs : List Comment) (ls : List Line) →
    pass stop is_owned 0 0 cs [] wanting ls
    ≡ content_of max_depth (Doc max_depth) (rows stop is_owned 0 0 cs ls).0 >>= with_comments (rows stop is_owned 0 0 cs ls).1
pass-content_of stop o cs ls =
    pass-from stop o 0 0 cs wanting ls
    ∙ ap (λ (p : Outcome Found). p >>= with_comments (rows stop o 0 0 cs ls).1) (run-content_of max_depth (rows stop o 0 0 cs ls).0)
