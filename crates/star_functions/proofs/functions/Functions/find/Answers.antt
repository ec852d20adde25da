use Rattle.std.proofs.Common.{◌≡◌, Some, None, Bor, Option, nat_eq, option_and_then, refl, sym, ap, ◌∙◌, rules}
use Rattle.std.specs.Option.{option_copied, option_map}
use Rattle.indexmap.specs.IndexMap.{get}
use Rattle.star_functions.specs.declared.function.Function.{Function}
use Rattle.star_functions.proofs.functions.Functions.find.Goals as goal

copied : (o : Option (Bor Function)) → option_map (λ f. f.now.code) o ≡ option_map (λ (g : Function). g.code) (option_copied o)
copied None = refl
copied (Some f) = refl

pub returns-in_err-functions : goal.returns-in_err-functions
returns-in_err-functions c =
    let files = c.args.self.now.files.value in
    let none : get nat_eq files c.args.file ≡ None = ap (λ m. get nat_eq m c.args.file) (sym c.as_ref.ensures) ∙ sym c.get.ensures.value ∙ ap option_copied c.in_err-functions.was in
    let stopped : c.from_residual.result ≡ None = search rules in
    ap (option_map (λ f. f.now.code)) stopped ∙ sym (ap (λ o. option_map (λ (g : Function). g.code) (option_and_then (λ m. get nat_eq m c.args.number) o)) none)

pub returns : goal.returns
returns c =
    let files = c.args.self.now.files.value in
    let some : get nat_eq files c.args.file ≡ Some c.in_ok-functions.functions.now = ap (λ m. get nat_eq m c.args.file) (sym c.as_ref.ensures) ∙ sym c.get.ensures.value ∙ ap option_copied c.in_ok-functions.was in
    copied c.get-2.result ∙ ap (option_map (λ (g : Function). g.code)) c.get-2.ensures.value ∙ sym (ap (λ o. option_map (λ (g : Function). g.code) (option_and_then (λ m. get nat_eq m c.args.number) o)) some)
