-- The passes over the documents of a template, behind those over its bytes: comments with their code, placing, text templates, names. The
-- first fault decides; what isn't built yet is told behind them.
use Rattle.std.specs.Prelude.{ℕ, Bool, [], Option, Some, None, Ok, Err}
use Rattle.ytt_base.specs.declared.fault.FaultKind.TheVariants as kind
use Rattle.ytt_base.specs.declared.fault.Place.{Place}
use Rattle.ytt_base.specs.Outcomes.{Outcome, ◌>>=◌, fault_at}
use Rattle.yaml_spec.specs.Noted.{Documents}
use Rattle.code_spec.specs.CodeReading.{CodeReader}
use Rattle.code_spec.specs.Names.{language_names}
use Rattle.code_spec.specs.Scopes.{Use, unknown_first}
use Rattle.template_spec.specs.Names.{items_names}
use Rattle.template_spec.specs.Nesting.{placed_whole}
use Rattle.template_spec.specs.Template.{Items}
use Rattle.template_spec.specs.Uses.{items_uses}
use Rattle.text_template_spec.specs.TextTemplates.{with_texts}
use Rattle.passes_spec.specs.Unbuilt.{first_unbuilt, unbuilt_items}

abbrev pub unless_unknown : Items → Option Use → Outcome Items
unless_unknown t None = Ok t
unless_unknown t (Some u) = Err (record { kind = kind.NameUnknown; place = Some u.place; detail = u.name })

-- a template whose names are all bound, in it or by the language; or the first that is not
abbrev pub bound : Items → Outcome Items
bound t = unless_unknown t (unknown_first (items_names t) language_names (items_uses [] t))

abbrev pub unless_unbuilt : Items → Option Place → Outcome Items
unless_unbuilt t None = Ok t
unless_unbuilt t (Some p) = Err (fault_at kind.NotBuilt p)

-- a template that is built whole; or the first place that is not
abbrev pub all_built : Items → Outcome Items
all_built t = unless_unbuilt t (first_unbuilt (unbuilt_items t))

-- what comes of a template that is placed: its text templates, its names, and what isn't built yet
abbrev pub texts_passed : CodeReader → Items → Outcome Items
texts_passed r t = with_texts r t >>= (λ u. bound u >>= all_built)

-- the template of documents, or the first fault of its passes
abbrev pub template_passed : CodeReader → (ignore_unknown : Bool) → (file : ℕ) → Documents → Outcome Items
template_passed r ignore file ds = placed_whole r ignore file ds >>= texts_passed r
