use Rattle.std.proofs.Common.{◌≡◌, ◌++◌, ◌∷◌, [], None, Some, if◌then◌else◌, rules}
use Rattle.ytt_spec.specs.Words.{is_depth, is_steps, number_of, value_of}
use Rattle.ytt_words.specs.Asks.{form_of}
use Rattle.ytt_words.proofs.Walk.{depth_put, flag_read, long_path_put, path_put, steps_put}
use Rattle.ytt_words.proofs.words.put.Goals as goal

pub returns-in_ok-with_path-in-File-Apart-clause-put :
    goal.returns-in_ok-with_path-in-File-Apart-clause-put
returns-in_ok-with_path-in-File-Apart-clause-put c =
    let form = form_of c.args.form in
    let new = c.in_ok-with_path-in-File-Apart.field-0 in
    let is : new ≡ record c.args.values { paths = c.args.values.paths ++ value_of form ∷ [] } = search rules in
    rw c.in-File-Apart.is-0 (λ verb gs h f. path_put verb c.args.values new form is gs h f)

pub returns-in_ok-with_path-in-LongFile-Apart-clause-put :
    goal.returns-in_ok-with_path-in-LongFile-Apart-clause-put
returns-in_ok-with_path-in-LongFile-Apart-clause-put c =
    let form = form_of c.args.form in
    let new = c.in_ok-with_path-in-LongFile-Apart.field-0 in
    let is : new ≡ record c.args.values { paths = c.args.values.paths ++ value_of form ∷ [] } = search rules in
    rw c.in-LongFile-Apart.is-0 (λ verb gs h f. long_path_put verb c.args.values new form is gs h f)

pub returns-in-Steps-Apart-clause-put : goal.returns-in-Steps-Apart-clause-put
returns-in-Steps-Apart-clause-put c =
    let form = form_of c.args.form in
    let put : c.with_steps.result ≡ (if is_steps (value_of form) then Some (record c.args.values { steps = Some (number_of (value_of form)) }) else None) = search rules in
    rw c.in-Steps-Apart.is-0 (λ verb. steps_put verb c.args.values form c.with_steps.result put)

pub returns-in-Depth-Apart-clause-put : goal.returns-in-Depth-Apart-clause-put
returns-in-Depth-Apart-clause-put c =
    let form = form_of c.args.form in
    let put : c.with_depth.result ≡ (if is_depth (value_of form) then Some (record c.args.values { depth = Some (number_of (value_of form)) }) else None) = search rules in
    rw c.in-Depth-Apart.is-0 (λ verb. depth_put verb c.args.values form c.with_depth.result put)

pub returns-in-IgnoreUnknown-Alone-clause-put : goal.returns-in-IgnoreUnknown-Alone-clause-put
returns-in-IgnoreUnknown-Alone-clause-put c = rw (c.in-IgnoreUnknown-Alone.is-0, c.in-IgnoreUnknown-Alone.is-1) (λ verb gs h f. flag_read verb gs c.args.values h f)
