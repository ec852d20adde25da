use Rattle.std.proofs.Common.{◌≡◌, ◌∙◌, ◌+◌, ◌++◌, ℕ, suc, List, [], ◌∷◌, Ok, Err, length, reverse, refl, ap, arith, rules, subst, sym}
use Rattle.std.proofs.lemmas.List.{reverse-append}
use Rattle.ytt_base.specs.Outcomes.{Gives}
use Rattle.ytt_base.specs.View.{trees_of}
use Rattle.ytt_base.specs.Trees.{Trees}
use Rattle.file_load.specs.Gave.{OwnsGiven}
use Rattle.file_load.specs.Seen.{kept_of, world_of}
use Rattle.star_eval.specs.Meets.{arena_of}
use Rattle.world_spec.specs.Parts.{at_start, outcome_of}
use Rattle.world_spec.specs.Worlds.{with_kept}
use Rattle.render_core.proofs.Gathered.{nothing_behind, put_before, put_nothing, stopped, turn}
use Rattle.render_core.specs.Runs.{EndsIn, all_documents, files_in, output_documents}
use Rattle.render_core.specs.declared.parts.Output.{Output}
use Rattle.render_core.proofs.running.run_all.Goals as goal

-- what is left, the first one in front
one_left : (left behind : List Output) (o : Output) → left ≡ behind ++ o ∷ [] → reverse left ≡ o ∷ reverse behind
one_left left behind o e = ap (λ (os : List Output). reverse os) e ∙ reverse-append behind (o ∷ [])

one_place : (n : ℕ) → suc n ≡ n + 1
one_place n = omega arith

no_place : (n m : ℕ) → n ≡ m → 0 + n ≡ m
no_place n m e = omega arith

next_place : (place left behind all : ℕ) → left ≡ suc behind → place + left ≡ all → (place + 1) + behind ≡ all
next_place place left behind all e k = omega arith

pub loop-output-init : goal.loop-output-init
loop-output-init c =
    let budget = c.args.budget in
    let all = all_documents (files_in c.args.functions.now c.args.programs.now budget.depth) 1 (reverse c.args.left) in
    let session = c.new-session.result in
    record {
      given = subst (λ gs. OwnsGiven (arena_of session) gs) (sym c.new-modules.ensures) tt;
      count = no_place (length c.args.left) (length c.args.programs.now) c.requires.outputs;
      depth = c.new-session.ensures.depth;
      whole = put_nothing (all (at_start budget.steps))
          ∙ (λ i. outcome_of (put_before (trees_of (sym c.new-trees.ensures i)) (all (with_kept (kept_of (arena_of session) (sym c.new-modules.ensures i) []) (sym c.new-session.ensures.state i)))));
    }

pub loop-output-preserved : goal.loop-output-preserved
loop-output-preserved c =
    let inv = c.loop-output.invariant in
    let fs = c.args.functions.now in
    let ps = c.args.programs.now in
    let files = files_in fs ps c.args.budget.depth in
    let n = suc c.loop-output.place in
    let o = c.in-Some.output in
    let os = reverse c.pop.new.self in
    let old = world_of c.loop-output.session c.loop-output.modules [] in
    let new = world_of c.run_output.new.session c.run_output.new.modules [] in
    let ts = c.loop-output.trees in
    let left = one_left c.loop-output.left c.pop.new.self o c.in-Some.ensures in
    let ends = c.in_ok-behind.ensures.ends in
    record {
      given = ends.1;
      count = next_place c.loop-output.place (length c.loop-output.left) (length c.pop.new.self) (length ps)
          (ap (λ (xs : List Output). length xs) c.in-Some.ensures ∙ length_one c.pop.new.self o) inv.count;
      depth = c.in_ok-behind.ensures.depth ∙ inv.depth;
      whole = inv.whole
          ∙ (λ i. outcome_of (put_before (trees_of ts) (all_documents files n (left i) old)))
          ∙ turn files n o os old new ts c.in_ok-behind.behind ((λ i. output_documents (files_in fs ps (sym inv.depth i)) n o old) ∙ ends.0)
          ∙ (λ i. outcome_of (put_before (trees_of (sym c.in_ok-put_behind.ensures i)) (all_documents files (suc (one_place c.loop-output.place i)) os new)));
    }
  where
    length_one : (xs : List Output) (o : Output) → length (xs ++ o ∷ []) ≡ suc (length xs)
    length_one [] o = refl
    length_one (x ∷ xs) o = ap (λ k. suc k) (length_one xs o)

pub returns-in_err-behind : goal.returns-in_err-behind
returns-in_err-behind c =
    let inv = c.loop-output.invariant in
    let fs = c.args.functions.now in
    let ps = c.args.programs.now in
    let files = files_in fs ps c.args.budget.depth in
    let n = suc c.loop-output.place in
    let o = c.in-Some.output in
    let os = reverse c.pop.new.self in
    let after = c.run_output.new.session in
    let gs = c.run_output.new.modules in
    let old = world_of c.loop-output.session c.loop-output.modules [] in
    let ts = c.loop-output.trees in
    let s = c.in_err-behind.field-0.0 in
    let left = one_left c.loop-output.left c.pop.new.self o c.in-Some.ensures in
    let whole = inv.whole ∙ (λ i. outcome_of (put_before (trees_of ts) (all_documents files n (left i) old))) in
    let ends = subst (λ (d : ℕ). EndsIn after gs (Err s) (output_documents (files_in fs ps d) n o old)) inv.depth c.in_err-behind.ensures.ends in
    let is : c.from_residual.result ≡ Err s = search rules in
    subst (λ r. Gives trees_of r (outcome_of (all_documents files 1 (reverse c.args.left) (at_start c.args.budget.steps)))) (sym is)
    (subst (Gives trees_of (Err s)) (sym whole) (stopped files n o os old (world_of after gs []) ts s after gs ends))

pub returns : goal.returns
returns c =
    let inv = c.loop-output.invariant in
    let files = files_in c.args.functions.now c.args.programs.now c.args.budget.depth in
    let none = c.in_default.ensures.0 in
    inv.whole
    ∙ (λ i. outcome_of (put_before (trees_of c.loop-output.trees) (all_documents files (suc c.loop-output.place) (reverse (none i)) (world_of c.loop-output.session c.loop-output.modules []))))
    ∙ ap (λ (ts : Trees). Ok ts) (nothing_behind (trees_of c.loop-output.trees))
