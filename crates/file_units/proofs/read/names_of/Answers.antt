use Rattle.std.proofs.Common.{◌≡◌, ◌++◌, ◌+◌, List, ℕ, [], ◌∷◌, drop, map as each, sym, ap, ◌∙◌, append-nil, append_assoc}
use Rattle.std.proofs.lemmas.List.{drop_all}
use Rattle.ytt_laws.proofs.Lists.{dropped}
use Rattle.file_find.specs.Finds.{file_of}
use Rattle.file_find.specs.declared.found.FoundFile.{FoundFile}
use Rattle.ytt_spec.specs.Meaning.{found_names}
use Rattle.file_units.proofs.read.names_of.Goals as goal

abbrev names_left : List FoundFile → List (List ℕ)
names_left gs = found_names (each file_of gs)

one_more : (names now : List (List ℕ)) (name : List ℕ) (gs rest : List FoundFile) (g : FoundFile) (all : List (List ℕ)) → now ≡ names ++ name ∷ [] → name ≡ g.name → gs ≡ g ∷ rest → names ++ names_left gs ≡ all → now ++ names_left rest ≡ all
one_more names now name gs rest g all e k next h =
    ap (λ ns. ns ++ names_left rest) e ∙ append_assoc names (name ∷ []) (names_left rest) ∙ ap (λ n. names ++ n ∷ names_left rest) k ∙ ap (λ l. names ++ names_left l) (sym next) ∙ h

pub loop-file-preserved : goal.loop-file-preserved
loop-file-preserved c =
    let gs = c.args.found.now in
    let i = c.loop-file.file-index in
    let file = c.file-item.result in
    let next = dropped gs i file (rw c.as_slice-file-items.ensures at c.loop-file-test.true) (rw c.as_slice-file-items.ensures at c.file-item.is) in
    one_more c.loop-file.names _ _ (drop i gs) (drop (i + 1) gs) file (names_left gs) c.in_ok-push.ensures.ok c.in_ok-copy.ensures next c.loop-file.invariant

pub returns : goal.returns
returns c =
    let gs = c.args.found.now in
    let none : drop c.loop-file.file-index gs ≡ [] = drop_all c.loop-file.file-index gs (rw c.as_slice-file-items.ensures at c.loop-file-test.false) in
    sym (append-nil c.loop-file.names) ∙ ap (λ l. c.loop-file.names ++ names_left l) (sym none) ∙ c.loop-file.invariant
