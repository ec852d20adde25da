-- The order of lines is the same among items and comments by path and by level.
use Rattle.std.proofs.Common.{◌≡◌, List, [], ◌∷◌, ◌++◌, Bool, true, false, Option, Some, None, refl, sym, ap, ◌∙◌, if◌then◌else◌}
use Rattle.yaml_spec.specs.Noted.{Comment}
use Rattle.template_spec.specs.Events.{Raw, Waiting, none_waits, waits, is_later, then_come, begun, trails, loose}
use Rattle.template_spec.specs.Events as events
use Rattle.template_pass.specs.Flat.{Flat, starts, trailing_of, alone, raws_of}
use Rattle.template_pass.specs.Rows.{Start, flat_started, level_of}
use Rattle.template_events.specs.Levels.{Part, Owner, comment, come}
use Rattle.template_events.specs.Levels as level
use Rattle.template_events.proofs.ByLevel.{all_by_level}

abbrev flat_come : Waiting → List Flat → List Flat
flat_come none_waits rest = rest
flat_come (waits p k b c) rest = trailing_of p k b c ∷ rest

-- with keys and what is written
abbrev pub flat_by_line : Waiting → List Flat → List Flat
flat_by_line w [] = flat_come w []
flat_by_line w (starts p k l key x ∷ fs) = flat_come w (starts p k l key x ∷ flat_by_line none_waits fs)
flat_by_line w (trailing_of p k b c ∷ fs) = flat_come w (flat_by_line (waits p k b c) fs)
flat_by_line w (alone d ∷ fs) = if is_later w d then alone d ∷ flat_by_line w fs else flat_come w (alone d ∷ flat_by_line none_waits fs)

-- of both branches
either : {A B : Type 0} (f : A → B) (b : Bool) (x y : A) (x' y' : B) → f x ≡ x' → f y ≡ y' → f (if b then x else y) ≡ (if b then x' else y')
either f true x y x' y' e g = e
either f false x y x' y' e g = g

-- ---- without keys and what is written

raws_come : (w : Waiting) (fs : List Flat) (xs : List Raw) → raws_of fs ≡ xs → raws_of (flat_come w fs) ≡ then_come w xs
raws_come none_waits fs xs e = e
raws_come (waits p k b c) fs xs e = ap (λ l. trails p k b c ∷ l) e

pub raws_by_line : (w : Waiting) (fs : List Flat) → raws_of (flat_by_line w fs) ≡ events.by_line w (raws_of fs)
raws_by_line w [] = raws_come w [] [] refl
raws_by_line w (starts p k l key x ∷ fs) =
    raws_come w (starts p k l key x ∷ flat_by_line none_waits fs) (begun p k l ∷ events.by_line none_waits (raws_of fs)) (ap (λ xs. begun p k l ∷ xs) (raws_by_line none_waits fs))
raws_by_line w (trailing_of p k b c ∷ fs) = raws_come w (flat_by_line (waits p k b c) fs) (events.by_line (waits p k b c) (raws_of fs)) (raws_by_line (waits p k b c) fs)
raws_by_line w (alone d ∷ fs) =
    either raws_of (is_later w d) (alone d ∷ flat_by_line w fs) (flat_come w (alone d ∷ flat_by_line none_waits fs)) (loose d ∷ events.by_line w (raws_of fs))
    (then_come w (loose d ∷ events.by_line none_waits (raws_of fs))) (ap (λ xs. loose d ∷ xs) (raws_by_line w fs))
    (raws_come w (alone d ∷ flat_by_line none_waits fs) (loose d ∷ events.by_line none_waits (raws_of fs)) (ap (λ xs. loose d ∷ xs) (raws_by_line none_waits fs)))

-- ---- by level

abbrev waiting_by_level : Waiting → Option level.Waiting
waiting_by_level none_waits = None
waiting_by_level (waits p k b c) = Some (record { owner = record { level = level_of p; kind = k; is_collection = b }; comment = c })

later_by_level : (w : Waiting) (d : Comment) → level.is_later (waiting_by_level w) d ≡ is_later w d
later_by_level none_waits d = refl
later_by_level (waits p k b c) d = refl

parts_come : (w : Waiting) (fs : List Flat) (ps : List Part) → all_by_level fs ≡ ps → all_by_level (flat_come w fs) ≡ come (waiting_by_level w) ++ ps
parts_come none_waits fs ps e = e
parts_come (waits p k b c) fs ps e = ap (λ l. comment (Some (record { level = level_of p; kind = k; is_collection = b })) c ∷ l) e

-- at the end
none_follow : (w : Waiting) → come (waiting_by_level w) ++ [] ≡ come (waiting_by_level w)
none_follow none_waits = refl
none_follow (waits p k b c) = refl

pub parts_by_line : (w : Waiting) (fs : List Flat) → all_by_level (flat_by_line w fs) ≡ level.by_line (waiting_by_level w) (all_by_level fs)
parts_by_line w [] = parts_come w [] [] refl ∙ none_follow w
parts_by_line w (starts p k l key x ∷ fs) =
    parts_come w (starts p k l key x ∷ flat_by_line none_waits fs) (level.starts (level_of p) k l key x ∷ level.by_line None (all_by_level fs))
    (ap (λ ps. level.starts (level_of p) k l key x ∷ ps) (parts_by_line none_waits fs))
parts_by_line w (trailing_of p k b c ∷ fs) =
    parts_come w (flat_by_line (waits p k b c) fs) (level.by_line (waiting_by_level (waits p k b c)) (all_by_level fs)) (parts_by_line (waits p k b c) fs)
parts_by_line w (alone d ∷ fs) =
    either all_by_level (is_later w d) (alone d ∷ flat_by_line w fs) (flat_come w (alone d ∷ flat_by_line none_waits fs)) (comment None d ∷ level.by_line (waiting_by_level w) (all_by_level fs))
    (come (waiting_by_level w) ++ comment None d ∷ level.by_line None (all_by_level fs)) (ap (λ ps. comment None d ∷ ps) (parts_by_line w fs))
    (parts_come w (alone d ∷ flat_by_line none_waits fs) (comment None d ∷ level.by_line None (all_by_level fs)) (ap (λ ps. comment None d ∷ ps) (parts_by_line none_waits fs)))
    ∙ ap (λ b. if b then comment None d ∷ level.by_line (waiting_by_level w) (all_by_level fs) else come (waiting_by_level w) ++ comment None d ∷ level.by_line None (all_by_level fs)) (sym (later_by_level w d))

-- ---- the items

started_come : (w : Waiting) (fs : List Flat) (ss : List Start) → flat_started fs ≡ ss → flat_started (flat_come w fs) ≡ ss
started_come none_waits fs ss e = e
started_come (waits p k b c) fs ss e = e

started_if : (b : Bool) (xs ys : List Flat) (ss : List Start) → flat_started xs ≡ ss → flat_started ys ≡ ss → flat_started (if b then xs else ys) ≡ ss
started_if true xs ys ss e f = e
started_if false xs ys ss e f = f

pub started_by_line : (w : Waiting) (fs : List Flat) → flat_started (flat_by_line w fs) ≡ flat_started fs
started_by_line w [] = started_come w [] [] refl
started_by_line w (starts p k l key x ∷ fs) =
    started_come w (starts p k l key x ∷ flat_by_line none_waits fs) (flat_started (starts p k l key x ∷ fs))
    (ap (λ (ss : List Start). record { level = level_of p; kind = k; line = l; key = key; written = x } ∷ ss) (started_by_line none_waits fs))
started_by_line w (trailing_of p k b c ∷ fs) = started_come w (flat_by_line (waits p k b c) fs) (flat_started fs) (started_by_line (waits p k b c) fs)
started_by_line w (alone d ∷ fs) =
    started_if (is_later w d) (alone d ∷ flat_by_line w fs) (flat_come w (alone d ∷ flat_by_line none_waits fs)) (flat_started fs) (started_by_line w fs)
    (started_come w (alone d ∷ flat_by_line none_waits fs) (flat_started fs) (started_by_line none_waits fs))
