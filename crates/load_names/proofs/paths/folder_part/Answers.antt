use Rattle.std.proofs.Common.{◌≡◌, ◌-◌, ap, arith, sym, take, ◌∙◌}
use Rattle.std.proofs.lemmas.Str.Pattern.{rfind_char}
use Rattle.load_names.proofs.Parts.{folder_before, no_folder}
use Rattle.load_names.proofs.paths.folder_part.Goals as goal

pub returns-in-Some : goal.returns-in-Some
returns-in-Some c =
    let found = rfind_char 47 c.args.name.now _ c.rfind.ensures.cases (omega arith) in
    let last = rw c.in-Some.is at found in
    let cut : c.in-Some.at - 0 ≡ c.in-Some.at = omega arith in
    c.range.ensures.value ∙ ap (λ k. take k c.args.name.now) cut ∙ sym (folder_before c.args.name.now c.in-Some.at last.0 last.1 last.2)

pub returns-in-None : goal.returns-in-None
returns-in-None c =
    let found = rfind_char 47 c.args.name.now _ c.rfind.ensures.cases (omega arith) in
    let none = rw c.in-None.is at found in
    sym (no_folder c.args.name.now none)
