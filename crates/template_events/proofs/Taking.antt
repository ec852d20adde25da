-- Parts that are heard one after another.
use Rattle.std.proofs.Common.{◌≡◌, ℕ, ◌+◌, ◌<◌, ◌≤◌, List, [], ◌∷◌, ◌++◌, Bool, true, false, if◌then◌else◌, Option, Some, None, Result, Ok, Err, refl, append_assoc, append-nil, sym, ap, ◌∙◌, subst, drop, length, get_or}
use Rattle.std.proofs.lemmas.List.{drop_all}
use Rattle.ytt_base.specs.declared.fault.Stop.{Stop}
use Rattle.ytt_base.specs.declared.fault.Stop.TheVariants as stop
use Rattle.ytt_base.specs.Outcomes.{Outcome}
use Rattle.ytt_laws.proofs.Lists.{dropped}
use Rattle.template_pass.specs.Rows.{Row}
use Rattle.star_grammar.specs.CodeReaders.{GivesCode, IsCodeReader}
use Rattle.code_spec.specs.CodeReading.{CodeReader}
use Rattle.yaml_spec.specs.Noted.{Comment, Documents}
use Rattle.template_events.specs.declared.gather.Gathering.{Gathering}
use Rattle.template_events.specs.declared.gather.Setting.{Setting}
use Rattle.template_events.specs.declared.hear.Hearing.{Hearing}
use Rattle.template_events.specs.Heard.{Gathers, Goes, Hears, HearsWhole, due, due_in_order}
use Rattle.template_events.specs.Hearing.{behind, let_go, rows_from}
use Rattle.template_events.specs.Levels.{Owner, Part, Waiting, by_line, come, comment, is_later, parts_in}
use Rattle.template_events.specs.View.{held_of, rows_of, start_of, waiting_of}
use Rattle.template_events.specs.declared.event.Start.{Start}

abbrev Step : Type 0
Step = Result (Unit {0}) Stop

-- ---- one part, and then another

goes_from : {A : Type 0} (x y : Outcome (List Row)) (res : Result A Stop) (z : Outcome (List Row)) → x ≡ y → Goes y res z → Goes x res z
goes_from x y (Ok a) z e g = e ∙ g
goes_from x y (Err (stop.Fault f)) z e g = e ∙ g
goes_from x y (Err stop.Memory) z e g = tt

module _ (s : Setting) (ps qs : List Part) (a b : Hearing) where
  in_turn : (r : CodeReader) (rest : List Part) → due r s a ((ps ++ qs) ++ rest) ≡ due r s a (ps ++ (qs ++ rest))
  in_turn r rest = ap (due r s a) (append_assoc ps qs rest)

  -- both are heard
  pub hears_then : (c : Hearing) (res : Step) → Hears s ps a b (Ok tt) → Hears s qs b c res → Hears s (ps ++ qs) a c res
  hears_then c res h k = λ r reads rest. goes_from _ _ res _ (in_turn r rest ∙ h r reads (qs ++ rest)) (k r reads rest)

  -- the first one stops
  pub hears_stopped : (c : Hearing) (e : Stop) → Hears s ps a b (Err e) → Hears s (ps ++ qs) a c (Err e)
  hears_stopped c (stop.Fault f) h = λ r reads rest. in_turn r rest ∙ h r reads (qs ++ rest)
  hears_stopped c stop.Memory h = λ r reads rest. tt

-- parts that equal these
pub hears_same : (s : Setting) (ps qs : List Part) (a b : Hearing) (res : Step) → qs ≡ ps → Hears s ps a b res → Hears s qs a b res
hears_same s ps qs a b res e h = subst (λ l. Hears s l a b res) (sym e) h

pub hears_nothing : (s : Setting) (a : Hearing) → Hears s [] a a (Ok tt)
hears_nothing s a = λ r reads rest. refl

pub hears_out_of_memory : (s : Setting) (ps : List Part) (a b : Hearing) → Hears s ps a b (Err stop.Memory)
hears_out_of_memory s ps a b = λ r reads rest. tt

-- ---- members in turn

-- what is due of all of them is due of those that are left
pub record IsHearing {T : Type 0} (s : Setting) (parts : List T → List Part) (all : List T) (first : Hearing) (j : ℕ) (now : Hearing) : Type 0 where
  pub goes : (r : CodeReader) → IsCodeReader r → (rest : List Part) → due r s first (parts all ++ rest) ≡ due r s now (parts (drop j all) ++ rest)

module _ {T : Type 0} (s : Setting) (parts : List T → List Part) (one : T → List Part) (first_of : (x : T) (xs : List T) → parts (x ∷ xs) ≡ one x ++ parts xs) (all : List T) (first now : Hearing) (j : ℕ) (x : T)
    (lt : j < length all) (member : x ≡ get_or all j x) (h : IsHearing s parts all first j now) where
  to_one : (r : CodeReader) (rest : List Part) → due r s now (parts (drop j all) ++ rest) ≡ due r s now (one x ++ (parts (drop (j + 1) all) ++ rest))
  to_one r rest = ap (λ l. due r s now (l ++ rest)) (ap parts (dropped all j x lt member) ∙ first_of x (drop (j + 1) all)) ∙ ap (due r s now) (append_assoc (one x) (parts (drop (j + 1) all)) rest)

  pub hearing_next : (next : Hearing) → Hears s (one x) now next (Ok tt) → IsHearing s parts all first (j + 1) next
  hearing_next next k = record { goes = λ r reads rest. h.goes r reads rest ∙ to_one r rest ∙ k r reads (parts (drop (j + 1) all) ++ rest) }

  pub hearing_stops : (next after : Hearing) (e : Stop) → Hears s (one x) now next (Err e) → Hears s (parts all) first after (Err e)
  hearing_stops next after (stop.Fault f) k = λ r reads rest. h.goes r reads rest ∙ to_one r rest ∙ k r reads (parts (drop (j + 1) all) ++ rest)
  hearing_stops next after stop.Memory k = λ r reads rest. tt

pub hearing_begins : {T : Type 0} (s : Setting) (parts : List T → List Part) (all : List T) (first : Hearing) → IsHearing s parts all first 0 first
hearing_begins s parts all first = record { goes = λ r reads rest. refl }

pub hearing_ends : {T : Type 0} (s : Setting) (parts : List T → List Part) (all : List T) (first now : Hearing) (j : ℕ) → length all ≤ j → parts [] ≡ [] → IsHearing s parts all first j now → Hears s (parts all) first now (Ok tt)
hearing_ends s parts all first now j le none h = λ r reads rest. h.goes r reads rest ∙ ap (λ l. due r s now (l ++ rest)) (ap parts (drop_all j all le) ∙ none)

-- ---- what waits, and then a part

goes_stopped : (x z z' : Outcome (List Row)) (e : Stop) → Goes {A = Unit {0}} x (Err e) z → Goes {A = Unit {0}} x (Err e) z'
goes_stopped x z z' (stop.Fault f) h = h
goes_stopped x z z' stop.Memory h = tt

taken : (b : Bool) (ps qs : List Part) → b ≡ true → (if b then ps else qs) ≡ ps
taken true ps qs e = refl
taken false ps qs e = cc

left : (b : Bool) (ps qs : List Part) → b ≡ false → (if b then ps else qs) ≡ qs
left false ps qs e = refl
left true ps qs e = cc

module _ (s : Setting) (a b : Hearing) (res : Step) where
  -- what is due behind a step, where this waits then
  waits_then : (r : CodeReader) (rest : List Part) (x : Outcome (List Row)) (w : Option Waiting) → waiting_of b.waiting ≡ w → Goes x res (due_in_order r s b.gathering (by_line w rest)) → Goes x res (due r s b rest)
  waits_then r rest x w e g = subst (λ v. Goes x res (due_in_order r s b.gathering (by_line v rest))) (sym e) g

  pub start_heard : (t : Start) (g : Gathering) → Gathers s (come (waiting_of a.waiting)) a.gathering g (Ok tt) → Gathers s (start_of t ∷ []) g b.gathering res → waiting_of b.waiting ≡ None
      → Hears s (start_of t ∷ []) a b res
  start_heard t g h k e = λ r reads rest.
      waits_then r rest _ None e (goes_from _ _ res _ (h r reads (start_of t ∷ by_line None rest)) (k r reads (by_line None rest)))

  -- a comment of no item, on an earlier line than what waits
  pub earlier_heard : (d : Comment) → is_later (waiting_of a.waiting) d ≡ true → Gathers s (comment None d ∷ []) a.gathering b.gathering res → waiting_of b.waiting ≡ waiting_of a.waiting
      → Hears s (comment None d ∷ []) a b res
  earlier_heard d later k e = λ r reads rest.
      waits_then r rest _ (waiting_of a.waiting) e (goes_from _ _ res _ (ap (due_in_order r s a.gathering) (taken (is_later (waiting_of a.waiting) d) _ _ later)) (k r reads (by_line (waiting_of a.waiting) rest)))

  -- and one that isn't
  pub alone_heard : (d : Comment) (g : Gathering) → is_later (waiting_of a.waiting) d ≡ false → Gathers s (come (waiting_of a.waiting)) a.gathering g (Ok tt) → Gathers s (comment None d ∷ []) g b.gathering res
      → waiting_of b.waiting ≡ None → Hears s (comment None d ∷ []) a b res
  alone_heard d g later h k e = λ r reads rest.
      waits_then r rest _ None e
      (goes_from _ _ res _ (ap (due_in_order r s a.gathering) (left (is_later (waiting_of a.waiting) d) _ _ later) ∙ h r reads (comment None d ∷ by_line None rest)) (k r reads (by_line None rest)))

module _ (s : Setting) (a b : Hearing) where
  pub beside_heard : (o : Owner) (c : Comment) → Gathers s (come (waiting_of a.waiting)) a.gathering b.gathering (Ok tt) → waiting_of b.waiting ≡ Some (record { owner = o; comment = c })
      → Hears s (comment (Some o) c ∷ []) a b (Ok tt)
  beside_heard o c h e = λ r reads rest.
      waits_then s a b (Ok tt) r rest (due r s a (comment (Some o) c ∷ rest)) (Some (record { owner = o; comment = c })) e (h r reads (by_line (Some (record { owner = o; comment = c })) rest))

  -- what waits stops
  module _ (g : Gathering) (e : Stop) (h : Gathers s (come (waiting_of a.waiting)) a.gathering g (Err e)) where
    pub start_stopped : (t : Start) → Hears s (start_of t ∷ []) a b (Err e)
    start_stopped t = λ r reads rest. goes_stopped _ _ _ e (h r reads (start_of t ∷ by_line None rest))

    pub beside_stopped : (o : Owner) (c : Comment) → Hears s (comment (Some o) c ∷ []) a b (Err e)
    beside_stopped o c = λ r reads rest. goes_stopped _ _ _ e (h r reads (by_line (Some (record { owner = o; comment = c })) rest))

    pub alone_stopped : (d : Comment) → is_later (waiting_of a.waiting) d ≡ false → Hears s (comment None d ∷ []) a b (Err e)
    alone_stopped d later = λ r reads rest.
        goes_from {A = Unit {0}} _ _ (Err e) _ (ap (due_in_order r s a.gathering) (left (is_later (waiting_of a.waiting) d) _ _ later)) (goes_stopped _ _ _ e (h r reads (comment None d ∷ by_line None rest)))

-- ---- from the begin to the end

module _ (s : Setting) (ds : Documents) (a b : Hearing) (c d : Gathering) (rows : a.gathering.rows.items ≡ []) (held : a.gathering.held ≡ None) (waiting : a.waiting ≡ None) where
  -- before the begin nothing is due but what follows
  at_begin : (r : CodeReader) (ps : List Part) → due r s a ps ≡ rows_from r s.ignore_unknown s.file None (by_line None ps)
  at_begin r ps =
      ap (λ w. due_in_order r s a.gathering (by_line (waiting_of w) ps)) waiting
      ∙ ap (λ l. behind (rows_of s.file l) (rows_from r s.ignore_unknown s.file (held_of a.gathering.held) (by_line None ps))) rows
      ∙ ap (λ h. behind [] (rows_from r s.ignore_unknown s.file (held_of h) (by_line None ps))) held
      ∙ nothing_before (rows_from r s.ignore_unknown s.file None (by_line None ps))
    where
      nothing_before : (o : Outcome (List Row)) → behind [] o ≡ o
      nothing_before (Ok rs) = refl
      nothing_before (Err f) = refl

  all_due : (r : CodeReader) → rows_from r s.ignore_unknown s.file None (by_line None (parts_in ds)) ≡ due r s a (parts_in ds ++ [])
  all_due r = sym (ap (due r s a) (append-nil (parts_in ds)) ∙ at_begin r (parts_in ds))

  pub whole_stopped : (e : Stop) → Hears s (parts_in ds) a b (Err e) → HearsWhole s ds d (Err e)
  whole_stopped (stop.Fault f) h = λ r reads. all_due r ∙ h r reads []
  whole_stopped stop.Memory h = λ r reads. tt

  -- at the end what waits comes
  module _ (h : Hears s (parts_in ds) a b (Ok tt)) where
    at_end : (r : CodeReader) → IsCodeReader r → rows_from r s.ignore_unknown s.file None (by_line None (parts_in ds)) ≡ due_in_order r s b.gathering (come (waiting_of b.waiting) ++ [])
    at_end r reads = all_due r ∙ h r reads [] ∙ ap (due_in_order r s b.gathering) (sym (append-nil (come (waiting_of b.waiting))))

    pub come_stopped : (e : Stop) → Gathers s (come (waiting_of b.waiting)) b.gathering c (Err e) → HearsWhole s ds d (Err e)
    come_stopped e k = λ r reads. goes_from {A = Unit {0}} _ _ (Err e) _ (at_end r reads) (goes_stopped _ _ _ e (k r reads []))

    pub whole_heard : (res : Step) → Gathers s (come (waiting_of b.waiting)) b.gathering c (Ok tt)
        → GivesCode (λ u. rows_of s.file d.rows.items) res (λ r. behind (rows_of s.file c.rows.items) (let_go r s.ignore_unknown s.file (held_of c.held))) → HearsWhole s ds d res
    whole_heard (Ok u) k g = λ r reads. at_end r reads ∙ k r reads [] ∙ g r reads
    whole_heard (Err (stop.Fault f)) k g = λ r reads. at_end r reads ∙ k r reads [] ∙ g r reads
    whole_heard (Err stop.Memory) k g = λ r reads. tt
