-- What stands at a path of files in memory, by whether a file below it was added.
use Rattle.std.proofs.Common.{◌≡◌, ℕ, ◌+◌, ◌-◌, ◌<◌, ◌≤◌, Bool, true, false, ◌||◌, cond, List, [], ◌∷◌, length, drop, get_or, map, string_bytes, nat_eq, Option, Some, None, Bor, is_some, refl, ap, sym, ◌∙◌, nat_cmp, arith, drop-cons, suc, ◌==◌}
use Rattle.std.proofs.lemmas.Bool.Decides.{nat_tests}
use Rattle.std.proofs.lemmas.List.{get_or_past}
use Rattle.std.proofs.lemmas.Str.{IsCharBoundary-after_ascii}
use Rattle.std.specs.BTreeSet.{insert_key}
use Rattle.std.specs.Cmp.{second_so}
use Rattle.std.specs.Option.{option_map}
use Rattle.std.specs.Str.{IsCharBoundary, IsUtf8}
use Rattle.std.specs.String.{string_cmp}
use Rattle.std.specs.declared.alloc.Global.{Global}
use Rattle.std.specs.declared.string.String.{String}
use Rattle.std.specs.Cmp.Lexicographic.{slice_cmp}
use Rattle.std.specs.List.{list_any, starts_with}
use Rattle.std.specs.Ordering.{match_ordering}
use Rattle.std.specs.declared.cmp.Ordering.{Ordering}
use Rattle.std.specs.declared.cmp.Ordering.TheVariants.{Less, Equal, Greater}
use Rattle.ytt_outside.proofs.SortedNames.{with_name-strings}
use Rattle.ytt_outside.specs.Files.{kind_of}
use Rattle.ytt_outside.specs.MemFiles.{Entry, slash, bytes_at, is_below, name_below, names_below, folder_or_nothing, file_or, standing_in}
use Rattle.ytt_outside.specs.Names.{with_name}
use Rattle.ytt_outside.specs.Standing.{Standing}
use Rattle.ytt_outside.specs.declared.files.PathKind.TheVariants as kind

placed-folder : (o : Ordering) (n m : List ℕ) (rest more : List (List ℕ)) → kind_of (folder_or_nothing (match_ordering o (n ∷ m ∷ rest) (m ∷ rest) (m ∷ more))) ≡ kind.Folder
placed-folder Less n m rest more = refl
placed-folder Equal n m rest more = refl
placed-folder Greater n m rest more = refl

with_name-folder : (ns : List (List ℕ)) (n : List ℕ) → kind_of (folder_or_nothing (with_name ns n)) ≡ kind.Folder
with_name-folder [] n = refl
with_name-folder (m ∷ ms) n = placed-folder (slice_cmp nat_cmp n m) n m ms (with_name ms n)

one_more : (b : Bool) (any : Bool) (n : List ℕ) (ns : List (List ℕ)) → kind_of (folder_or_nothing ns) ≡ cond any kind.Folder kind.Missing
    → kind_of (folder_or_nothing (cond b (with_name ns n) ns)) ≡ cond (b || any) kind.Folder kind.Missing
one_more true any n ns h = with_name-folder ns n
one_more false any n ns h = h

names-folder : (path : List ℕ) (es : List Entry) → kind_of (folder_or_nothing (names_below path es)) ≡ cond (list_any (λ e. is_below path e.0) es) kind.Folder kind.Missing
names-folder path [] = refl
names-folder path (e ∷ es) = one_more (is_below path e.0) (list_any (λ e. is_below path e.0) es) (name_below path e.0) (names_below path es) (names-folder path es)

no_file : (other : Standing) (at : Option (List ℕ)) (found : Option (Bor (List ℕ))) → option_map (λ b. b.now) found ≡ at → is_some found ≡ false
    → kind_of (file_or other at) ≡ kind_of other
no_file other None found e h = refl
no_file other (Some bytes) None e h = cc
no_file other (Some bytes) (Some b) e h = cc

-- where no file was found, a folder or nothing stands
pub kind_of-standing_in : (es : List Entry) (path : List ℕ) (found : Option (Bor (List ℕ))) (any : Bool) → option_map (λ b. b.now) found ≡ bytes_at es path → is_some found ≡ false
    → list_any (λ e. is_below path e.0) es ≡ any → cond any kind.Folder kind.Missing ≡ kind_of (standing_in es path)
kind_of-standing_in es path found any e h f = sym (no_file _ (bytes_at es path) found e h ∙ names-folder path es ∙ ap (λ b. cond b kind.Folder kind.Missing) f)

-- ---- the names of a folder

eqb_true : (m n : ℕ) → (m == n) ≡ true → m ≡ n
eqb_true m n h = grind (arith, nat_tests)

-- a slash stands behind the folder's path
pub slash_behind : (above path : List ℕ) → is_below above path ≡ true → get_or path (length above) 0 ≡ slash
slash_behind above path h = eqb_true _ _ (second_so (starts_with nat_eq path above) _ h)

slash_within : (path : List ℕ) (n : ℕ) → get_or path n 0 ≡ slash → n < length path
slash_within path n h = grind (arith, get_or_past path n 0)

-- the name begins at a character
pub name_begins : (above path : List ℕ) → IsUtf8 path → is_below above path ≡ true → IsCharBoundary path (length above + 1)
name_begins above path u h =
    let e = slash_behind above path h in
    IsCharBoundary-after_ascii path (length above) u (slash_within path (length above) e) (omega (arith, e))

-- the file before those that are gone through
pub names_below-one_more : (folder : List ℕ) (es : List Entry) (left : ℕ) (e : Entry) (path : List ℕ) (ks new : List (String Global)) (key : String Global)
    → 0 < left → left ≤ length es → e ≡ get_or es (left - 1) e → path ≡ (get_or es (left - 1) e).0 → is_below folder path ≡ true → string_bytes key ≡ name_below folder path
    → map string_bytes ks ≡ names_below folder (drop left es) → new ≡ insert_key string_cmp ks key → map string_bytes new ≡ names_below folder (drop (left - 1) es)
names_below-one_more folder es left e path ks new key some within is at below name so_far inserted =
    let first : left - 1 < length es = omega arith in
    let next : suc (left - 1) ≡ left = omega arith in
    let cut : drop (left - 1) es ≡ e ∷ drop left es = drop-cons es (left - 1) e first ∙ (λ i. sym is i ∷ drop (next i) es) in
    let same : path ≡ e.0 = at ∙ ap (λ (x : Entry). x.0) (sym is) in
    let here : is_below folder e.0 ≡ true = ap (is_below folder) (sym same) ∙ below in
    ap (map string_bytes) inserted ∙ with_name-strings ks key ∙ (λ i. with_name (so_far i) ((name ∙ ap (name_below folder) same) i)) ∙ sym (ap (names_below folder) cut ∙ ap (λ b. cond b (with_name (names_below folder (drop left es)) (name_below folder e.0)) (names_below folder (drop left es))) here)
