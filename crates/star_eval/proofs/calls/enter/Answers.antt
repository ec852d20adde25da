use Rattle.std.proofs.Common.{◌-◌, None, option_map, sym, ap, ◌∙◌}
use Rattle.star_tree.specs.View.{item_kind_of}
use Rattle.star_eval.specs.Waiting.{call_gives}
use Rattle.star_blocks.specs.Nested.{ops_of}
use Rattle.star_functions.specs.View.{code_of}
use Rattle.star_spec.specs.Calls.{enter_code}
use Rattle.star_spec.specs.Eval.{starlark}
use Rattle.star_tree.specs.Whole.{expr_of}
use Rattle.star_values.specs.Objects.{env_in}
use Rattle.template_meaning.specs.Calls.{enter_ops}
use Rattle.star_eval.specs.Calling.{calls_at}
use Rattle.star_eval.specs.Doing.{evaluated, through}
use Rattle.star_eval.specs.Frames.{around_value}
use Rattle.star_eval.specs.Meets.{state_of}
use Rattle.star_eval.specs.View.{arena_in, waiting_in}
use Rattle.star_eval.proofs.Calling.{opened_file, opened_flow, opened_grows, opened_nodes, opened_setting, opened_sound, opened_state, opened_value}
use Rattle.star_eval.proofs.calls.enter.Goals as goal

pub returns-in_ok-open_call-in-Lambda : goal.returns-in_ok-open_call-in-Lambda
returns-in_ok-open_call-in-Lambda c =
    let m = c.args.m.now in
    let n = c.open_call.new.m in
    let o = c.in_ok-open_call-in-Lambda.ensures in
    let sound = c.requires.sound in
    let scope = c.requires.scope in
    record {
      same = opened_value m n c.args.file None c.args.scope o sound scope _
          ∙ (λ i. around_value m (waiting_in m) (evaluated (opened_setting m n c.args.file None c.args.scope o sound scope i) (expr_of (opened_file m n c.args.file None c.args.scope o sound scope i) c.in-Lambda.body.now) (opened_state m n c.args.file None c.args.scope o sound scope i)))
          ∙ sym (ap (λ f. around_value m (waiting_in m) (enter_code starlark (enter_ops starlark) (calls_at m.code.functions (m.depth - 1)) (code_of c.args.file f) (env_in (arena_in m).held c.args.scope) (state_of m.session))) c.in-Lambda.is);
      sound = opened_sound m n c.args.file None c.args.scope o sound scope;
      owned = tt;
      grows = opened_grows m n c.args.file None c.args.scope o sound scope;
    }

pub returns-in_ok-open_call-in-Def : goal.returns-in_ok-open_call-in-Def
returns-in_ok-open_call-in-Def c =
    let m = c.args.m.now in
    let n = c.open_call-in-Def.new.m in
    let o = c.in_ok-open_call-in-Def.ensures in
    let sound = c.requires.sound in
    let scope = c.requires.scope in
    let fragment = c.in-Def.fragment in
    record {
      same = opened_flow m n c.args.file fragment c.args.scope o sound scope _
          ∙ (λ i. around_value m (waiting_in m) (call_gives (option_map item_kind_of fragment) (through (opened_setting m n c.args.file fragment c.args.scope o sound scope i) (ops_of (opened_file m n c.args.file fragment c.args.scope o sound scope i) c.in-Def.body.now) (opened_nodes m n c.args.file fragment c.args.scope o sound scope i) (opened_state m n c.args.file fragment c.args.scope o sound scope i))))
          ∙ sym (ap (λ f. around_value m (waiting_in m) (enter_code starlark (enter_ops starlark) (calls_at m.code.functions (m.depth - 1)) (code_of c.args.file f) (env_in (arena_in m).held c.args.scope) (state_of m.session))) c.in-Def.is);
      sound = opened_sound m n c.args.file fragment c.args.scope o sound scope;
      owned = tt;
      grows = opened_grows m n c.args.file fragment c.args.scope o sound scope;
    }
