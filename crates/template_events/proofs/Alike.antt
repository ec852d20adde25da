-- The rows of items and comments by level are the events, without keys and what is written.
use Rattle.std.proofs.Common.{◌≡◌, ℕ, suc, List, [], ◌∷◌, Bool, true, false, ◌==◌, ◌&&◌, Option, Some, None, Ok, Err, refl, sym, ap, ◌∙◌, subst, append-nil, map as each, if◌then◌else◌}
use Rattle.std.proofs.lemmas.Bool.{and_parts, eqb-true}
use Rattle.ytt_laws.proofs.Yielded.{ok_same}
use Rattle.ytt_base.specs.declared.fault.Fault.{Fault}
use Rattle.ytt_base.specs.Outcomes.{Outcome, ◌>>=◌, place_at}
use Rattle.yaml_spec.specs.Noted.{Comment, is_code, code_in}
use Rattle.code_spec.specs.CodeReading.{CodeReader}
use Rattle.code_spec.specs.Program.{ItemKind}
use Rattle.template_spec.specs.Comments.{Said, ignored, comment_said, without_end}
use Rattle.template_spec.specs.Events.{Path, Raw, begun, trails, loose, Event, heard, gathered, continues_it}
use Rattle.template_spec.specs.Events as events
use Rattle.template_pass.specs.Flat.{Flat, starts, trailing_of, alone, raws_of}
use Rattle.template_pass.specs.Rows.{Bare, bare_event, bare_row, level_of, Row}
use Rattle.template_pass.specs.Rows as row
use Rattle.template_events.specs.Levels.{Owner}
use Rattle.template_events.specs.Hearing.{Held, and_rows, behind, goes_on, grown, held_from, let_go, row_of, rows_from, spoken}
use Rattle.template_events.proofs.ByLevel.{all_by_level}

-- ---- outcomes without keys

abbrev pub bare_events : Outcome (List Event) → Outcome (List Bare)
bare_events o = o >>= (λ es. Ok (each bare_event es))

abbrev pub bare_rows : Outcome (List Row) → Outcome (List Bare)
bare_rows o = o >>= (λ rs. Ok (each bare_row rs))

-- one more in front, of events and of rows
one_more : (e : Event) (r : Row) (es : Outcome (List Event)) (rs : Outcome (List Row)) → bare_event e ≡ bare_row r → bare_events es ≡ bare_rows rs
    → bare_events (es >>= (λ xs. Ok (e ∷ xs))) ≡ bare_rows (behind (r ∷ []) rs)
one_more e r (Ok es) (Ok rs) b h = ap Ok (ap (λ l. bare_event e ∷ l) (ok_same Fault (each bare_event es) (each bare_row rs) h) ∙ ap (λ c. c ∷ each bare_row rs) b)
one_more e r (Err f) (Err g) b h = cc
one_more e r (Ok es) (Err g) b h = cc
one_more e r (Err f) (Ok rs) b h = cc

none_more : (es : Outcome (List Event)) (rs : Outcome (List Row)) → bare_events es ≡ bare_rows rs → bare_events (es >>= (λ xs. Ok xs)) ≡ bare_rows (behind [] rs)
none_more (Ok es) (Ok rs) h = h
none_more (Err f) (Err g) h = h
none_more (Ok es) (Err g) h = h
none_more (Err f) (Ok rs) h = h

-- what was said, in front of what follows
said_more : (o : Option Owner) (l : ℕ) (event : Said → Event) (s : Said) (es : Outcome (List Event)) (rs : Outcome (List Row)) → bare_event (event s) ≡ bare_row (row_of o l s)
    → bare_events es ≡ bare_rows rs → bare_events (es >>= (λ xs. Ok (events.spoken s event xs))) ≡ bare_rows (behind (spoken o l s) rs)
said_more o l event ignored es rs b h = none_more es rs h
said_more o l event s es rs b h = one_more (event s) (row_of o l s) es rs b h

-- what is said of a comment, in front of what follows
heard_more : (o : Option Owner) (l : ℕ) (event : Said → Event) (said : Outcome Said) (es : Outcome (List Event)) (rs : Outcome (List Row)) → ((s : Said) → bare_event (event s) ≡ bare_row (row_of o l s))
    → bare_events es ≡ bare_rows rs → bare_events (said >>= (λ s. es >>= (λ xs. Ok (events.spoken s event xs)))) ≡ bare_rows (and_rows (said >>= (λ s. Ok (spoken o l s))) rs)
heard_more o l event (Ok s) es rs b h = said_more o l event s es rs (b s) h
heard_more o l event (Err f) es rs b h = refl

-- ---- what is held

abbrev pub owner_at : Path → ItemKind → Bool → Owner
owner_at p k b = record { level = level_of p; kind = k; is_collection = b }

-- what is held, by level
abbrev pub held_by_level : events.Held → Option Held
held_by_level events.nothing = None
held_by_level (events.held c l) = Some (record { owner = None; comment = c; last = l })
held_by_level (events.held_trailing p k b c l) = Some (record { owner = Some (owner_at p k b); comment = c; last = l })

-- the line of the comment that continues one is the one below it
below_it : (r : CodeReader) (file : ℕ) (c : Comment) (l : ℕ) (d : Comment) → continues_it r file c l d ≡ true → suc l ≡ d.line
below_it r file c l d e =
    let code : Bool = is_code d.text && (is_code c.text && r.is_open (place_at file c.line) (without_end (code_in c.text))) in
    let h = and_parts d.own_line (d.line == suc l && code) e in
    let k = and_parts (d.line == suc l) code h.1 in
    sym (eqb-true d.line (suc l) k.0)

module _ (r : CodeReader) (ignore : Bool) (file : ℕ) where
  abbrev Alike : List Raw → Outcome (List Row) → Type 0
  Alike xs rs = bare_events (heard r ignore file xs) ≡ bare_rows rs

  let_go_alike : (h : events.Held) (xs : List Raw) (rs : Outcome (List Row)) → Alike xs rs → Alike (events.let_go h xs) (and_rows (let_go r ignore file (held_by_level h)) rs)
  let_go_alike events.nothing xs rs e = e ∙ nothing_before rs
    where
      nothing_before : (rs : Outcome (List Row)) → bare_rows rs ≡ bare_rows (behind [] rs)
      nothing_before (Ok xs) = refl
      nothing_before (Err f) = refl
  let_go_alike (events.held c l) xs rs e = heard_more None c.line (events.says c.line) (comment_said r ignore (place_at file c.line) c) (heard r ignore file xs) rs (λ s. refl) e
  let_go_alike (events.held_trailing p k b c l) xs rs e =
      heard_more (Some (owner_at p k b)) c.line (events.beside p k b c.line) (comment_said r ignore (place_at file c.line) c) (heard r ignore file xs) rs (λ s. refl) e

  -- the comment of an item continues nothing
  never_on : (h : Option Held) (o : Owner) (c : Comment) → goes_on r file h (Some o) c ≡ false
  never_on None o c = refl
  never_on (Some h) o c = refl

  goes_alike : (h : events.Held) (c : Comment) → goes_on r file (held_by_level h) None c ≡ events.goes_on r file h c
  goes_alike events.nothing c = refl
  goes_alike (events.held d l) c = refl
  goes_alike (events.held_trailing p k b d l) c = refl

  grown_alike : (h : events.Held) (c : Comment) → events.goes_on r file h c ≡ true → held_by_level (events.grown h c) ≡ grown (held_by_level h) (code_in c.text) c.line
  grown_alike events.nothing c e = refl
  grown_alike (events.held d l) c e = ap (λ n. held_by_level (events.held (events.longer d c) n)) (below_it r file d l c e)
  grown_alike (events.held_trailing p k b d l) c e = ap (λ n. held_by_level (events.held_trailing p k b (events.longer d c) n)) (below_it r file d l c e)

  taken : {A : Type 0} (b : Bool) (x y : A) → b ≡ false → (if b then x else y) ≡ y
  taken false x y e = refl
  taken true x y e = cc

  -- nothing behind
  none_behind : (o : Outcome (List Row)) → and_rows o (Ok []) ≡ o
  none_behind (Ok rs) = ap Ok (append-nil rs)
  none_behind (Err f) = refl

  -- by whether it goes on
  goes_or_not : (b b' : Bool) (on off : List Raw) (on' off' : Outcome (List Row)) → b' ≡ b → (b ≡ true → Alike on on') → Alike off off'
      → Alike (elim b as (λ _. List Raw) [ true ↦ on | false ↦ off ]) (if b' then on' else off')
  goes_or_not true true on off on' off' e f g = f refl
  goes_or_not false false on off on' off' e f g = g
  goes_or_not true false on off on' off' e f g = cc
  goes_or_not false true on off on' off' e f g = cc

  pub rows_alike : (h : events.Held) (fs : List Flat) → Alike (gathered r file h (raws_of fs)) (rows_from r ignore file (held_by_level h) (all_by_level fs))
  rows_alike h [] = let_go_alike h [] (Ok []) refl ∙ ap bare_rows (none_behind (let_go r ignore file (held_by_level h)))
  rows_alike h (starts p k l key w ∷ fs) =
      let_go_alike h (begun p k l ∷ gathered r file events.nothing (raws_of fs)) (behind (row.begins (level_of p) k l key w ∷ []) (rows_from r ignore file None (all_by_level fs)))
      (one_more (events.begins p k l) (row.begins (level_of p) k l key w) (heard r ignore file (gathered r file events.nothing (raws_of fs))) (rows_from r ignore file None (all_by_level fs)) refl (rows_alike events.nothing fs))
  rows_alike h (trailing_of p k b c ∷ fs) =
      let_go_alike h (gathered r file (events.held_trailing p k b c c.line) (raws_of fs)) (rows_from r ignore file (held_by_level (events.held_trailing p k b c c.line)) (all_by_level fs))
      (rows_alike (events.held_trailing p k b c c.line) fs)
      ∙ ap bare_rows (sym (taken (goes_on r file (held_by_level h) (Some (owner_at p k b)) c) _ _ (never_on (held_by_level h) (owner_at p k b) c)))
  rows_alike h (alone c ∷ fs) =
      goes_or_not (events.goes_on r file h c) (goes_on r file (held_by_level h) None c) (gathered r file (events.grown h c) (raws_of fs)) (events.let_go h (gathered r file (events.held c c.line) (raws_of fs)))
      (rows_from r ignore file (grown (held_by_level h) (code_in c.text) c.line) (all_by_level fs))
      (and_rows (let_go r ignore file (held_by_level h)) (rows_from r ignore file (Some (held_from None c)) (all_by_level fs)))
      (goes_alike h c)
      (λ e. subst (λ g. Alike (gathered r file (events.grown h c) (raws_of fs)) (rows_from r ignore file g (all_by_level fs))) (grown_alike h c e) (rows_alike (events.grown h c) fs))
      (let_go_alike h (gathered r file (events.held c c.line) (raws_of fs)) (rows_from r ignore file (Some (held_from None c)) (all_by_level fs)) (rows_alike (events.held c c.line) fs))
