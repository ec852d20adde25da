-- Blocks that close, the innermost first.
use Rattle.std.proofs.Common.{◌≡◌, ℕ, ◌≤◌, ◌<◌, ◌+◌, List, [], ◌∷◌, ◌++◌, true, false, length, take, drop, None, refl, sym, ◌∙◌, ap, arith, length-append}
use Rattle.std.proofs.lemmas.List.{map-append, drop-append-le, take-append-le, drop_all, take_all, drop-map}
use Rattle.yaml_pass.specs.Machine.{Frame, Hole, filled, wrap, with_items, finish}
use Rattle.yaml_noted.specs.declared.noted.Content.TheVariants as held
use Rattle.yaml_noted.specs.declared.noted.NotedItem.{NotedItem}
use Rattle.yaml_noted.specs.View.{Noted, content_of, in_items}
use Rattle.yaml_noted.proofs.Views.{content_of-List, content_of-Map}
use Rattle.yaml_spec.specs.Entries.{Found}
use Rattle.yaml_spec.specs.Noted.{Content, item, no_items, noted_list, noted_map}
use Rattle.yaml_entries.specs.View.{done_of, frame_of, frames_of}
use Rattle.yaml_entries.specs.declared.frames.Frame as shown

-- ---- items

in_items-with : (xs : List Noted) (x : Noted) → in_items (xs ++ x ∷ []) ≡ with_items xs (item x.0 x.1 no_items)
in_items-with [] x = refl
in_items-with (y ∷ ys) x = ap (item y.0 y.1) (in_items-with ys x)

pub list_closed : (is : List NotedItem) (xs : List Noted) (x : Noted) → done_of is ≡ xs ++ x ∷ [] → content_of (held.List is) ≡ wrap true (with_items xs (item x.0 x.1 no_items))
list_closed is xs x e = content_of-List is ∙ ap noted_list (ap in_items e ∙ in_items-with xs x)

pub map_closed : (is : List NotedItem) (xs : List Noted) (x : Noted) → done_of is ≡ xs ++ x ∷ [] → content_of (held.Map is) ≡ wrap false (with_items xs (item x.0 x.1 no_items))
map_closed is xs x e = content_of-Map is ∙ ap noted_map (ap in_items e ∙ in_items-with xs x)

-- ---- blocks

-- what a block has, if its open entry has this
abbrev pub block_of : Frame → Content → Content
block_of f c = wrap f.is_list (with_items f.done (item f.note c no_items))

-- the innermost block closes
finish-last : (fs : List Frame) (f : Frame) (x : Found) → finish (fs ++ f ∷ []) (filled x) ≡ finish fs (filled (block_of f x.0, None))
finish-last [] f x = refl
finish-last (g ∷ fs) f x = ap (λ (c : Found). (block_of g c.0, None)) (finish-last fs f x)

finish-none : (fs : List Frame) (h : Hole) → finish fs (filled (finish [] h)) ≡ finish fs h
finish-none [] h = refl
finish-none (f ∷ fs) h = ap (λ (c : Found). (block_of f c.0, None)) (finish-none fs h)

-- the blocks behind the first of these are closed in part, and what the open entry has is this so far
pub record IsClosing (count : ℕ) (frames : List shown.Frame) (hole : Hole) (still : List shown.Frame) (found : Found) : Type 0 where
  pub kept : take count still ≡ take count frames
  pub same : finish (drop count (frames_of still)) (filled found) ≡ finish (drop count (frames_of frames)) hole
  pub enough : count ≤ length still

pub start : (count : ℕ) (frames : List shown.Frame) (hole : Hole) (found : Found) → count ≤ length frames → found ≡ finish [] hole → IsClosing count frames hole frames found
start count frames hole found h e = record {
  kept = refl;
  same = ap (λ (x : Found). finish (drop count (frames_of frames)) (filled x)) e ∙ finish-none (drop count (frames_of frames)) hole;
  enough = h;
}

pub turn : (count : ℕ) (frames : List shown.Frame) (hole : Hole) (still less : List shown.Frame) (f : shown.Frame) (found : Found) (c : Content) →
    IsClosing count frames hole still found → count < length still → still ≡ less ++ f ∷ [] → c ≡ block_of (frame_of f) found.0 → IsClosing count frames hole less (c, None)
turn count frames hole still less f found c k lt e d =
    let len : length still ≡ length less + 1 = rw e (length-append less (f ∷ [])) in
    let h : count ≤ length less = omega (arith, len) in
    let fs : drop count (frames_of still) ≡ drop count (frames_of less) ++ frame_of f ∷ [] =
    drop-map frame_of count still ∙ ap frames_of (ap (drop count) e ∙ drop-append-le count less (f ∷ []) h) ∙ map-append frame_of (drop count less) (f ∷ []) ∙ ap (λ (xs : List Frame). xs ++ frame_of f ∷ []) (sym (drop-map frame_of count less)) in
    record {
      kept = sym (ap (take count) e ∙ take-append-le count less (f ∷ []) h) ∙ k.kept;
      same = rw d (sym (finish-last (drop count (frames_of less)) (frame_of f) found) ∙ rw (← fs) k.same);
      enough = h;
    }

pub end : (count : ℕ) (frames : List shown.Frame) (hole : Hole) (still : List shown.Frame) (found : Found) → IsClosing count frames hole still found → length still ≤ count →
    (still ≡ take count frames) × (found ≡ finish (drop count (frames_of frames)) hole)
end count frames hole still found k h =
    let none : drop count (frames_of still) ≡ [] = drop-map frame_of count still ∙ ap frames_of (drop_all count still h) in
    (sym (take_all count still h) ∙ k.kept, ap (λ (fs : List Frame). finish fs (filled found)) (sym none) ∙ k.same)

pub ruleset blocks = (end)
