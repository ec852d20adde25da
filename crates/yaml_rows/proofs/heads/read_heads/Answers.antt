use Rattle.std.proofs.Common.{◌≡◌, suc, ◌-◌, ◌≤◌, ◌∙◌, length, refl, sym, arith, rules, length-drop}
use Rattle.std.proofs.lemmas.List.{map_push}
use Rattle.yaml_rows.specs.View.{heads_of}
use Rattle.yaml_text.proofs.Whites.{skip_white-length}
use Rattle.yaml_rows.proofs.DashHeads.{dash-shorter, heads-dash, heads-key}
use Rattle.yaml_rows.proofs.heads.read_heads.Goals as goal

pub overflow_sub-here : goal.overflow_sub-here
overflow_sub-here c = rw c.skip_white-rest.ensures (skip_white-length c.behind-behind.result.now)

pub dashes-smaller : goal.dashes-smaller
dashes-smaller c =
    let shorter = dash-shorter c.dashes.rest.now (sym c.is_dash.ensures ∙ c.dashes-test.true) in
    rw (c.skip_white-rest.ensures, c.behind-behind.ensures) (omega (arith, shorter))

pub dashes-preserved : goal.dashes-preserved
dashes-preserved c =
    let l = c.dashes in
    let dash = sym c.is_dash.ensures ∙ c.dashes-test.true in
    let shorter : suc (length c.skip_white-rest.result.now) ≤ length l.rest.now = rw (c.skip_white-rest.ensures, c.behind-behind.ensures) (dash-shorter l.rest.now dash) in
    let shorter_too : length c.skip_white-rest.result.now ≤ length c.behind-behind.result.now = rw c.skip_white-rest.ensures (skip_white-length c.behind-behind.result.now) in
    let one : length c.behind-behind.result.now ≡ length l.rest.now - 1 = rw c.behind-behind.ensures (length-drop 1 l.rest.now) in
    record {
      utf8 = search rules;
      within = omega (arith, l.invariant.within, shorter, shorter_too, one);
      same =
          rw (c.in_ok-push.ensures.ok, map_push, c.has_tab_before-tab.ensures)
          (sym (heads-dash (heads_of l.heads) l.here _ l.tab l.rest.now c.behind-behind.result.now c.skip_white-rest.result.now dash c.behind-behind.ensures c.skip_white-rest.ensures refl) ∙ l.invariant.same);
    }

pub returns : goal.returns
returns c =
    let l = c.dashes in
    let key = heads-key l.here l.tab l.rest.now (sym c.is_dash.ensures ∙ c.dashes-test.false) in
    rw (← l.invariant.same, key) c.read_key_head.ensures
