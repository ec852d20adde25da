-- What the pass holds, as plain data.
use Rattle.std.specs.Prelude.{List, [], map as each, reverse, Option, option_map}
use Rattle.ytt_base.specs.declared.fault.Fault.{Fault}
use Rattle.ytt_base.specs.Outcomes.{fault_at}
use Rattle.code_spec.specs.Code.{no_parameters}
use Rattle.code_spec.specs.CodeReading.{Header, if_header, for_header, def_header, end_header}
use Rattle.template_spec.specs.Misplaced.{Returned}
use Rattle.template_pass.specs.Levels.{Open}
use Rattle.template_checks.specs.declared.blocks.Block.{Block}
use Rattle.template_checks.specs.declared.blocks.Form.{Form}
use Rattle.template_checks.specs.declared.blocks.Form.TheVariants as form
use Rattle.template_checks.specs.declared.wrong.Wrong.{Wrong}
use Rattle.template_checks.specs.declared.statements.Return.{Return}
use Rattle.template_checks.specs.Walk.{nothing}

-- a head of this form
abbrev pub head_of : Form → Header
head_of form.If = if_header nothing
head_of form.For = for_header nothing nothing
head_of form.Def = def_header [] no_parameters
head_of form.Other = end_header

abbrev pub open_of : Block → Open
open_of b = record { level = b.level; header = head_of b.form; for_one = b.for_one; line = b.line; one = b.one; has_else = b.has_else; before = b.before }

abbrev pub open_in : Option Block → Option Open
open_in b = option_map open_of b

abbrev pub opens_of : List Block → List Open
opens_of bs = each open_of bs

-- where the innermost block stands last
abbrev pub blocks_of : List Block → List Open
blocks_of bs = opens_of (reverse bs)

abbrev pub fault_by : Wrong → Fault
fault_by w = fault_at w.kind w.place

abbrev pub wrong_of : Option Wrong → Option Fault
wrong_of w = option_map fault_by w

abbrev pub return_of : Return → Returned
return_of r = record { within = r.within; place = r.place }

abbrev pub returned_of : List Return → List Returned
returned_of rs = each return_of rs
