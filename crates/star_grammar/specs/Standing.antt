-- Where a reader stands between two tokens: what its refusals tell beside the grammar. Counts stand still at their greatest.
use Rattle.std.specs.Prelude.{ℕ, ◌+◌, ◌-◌, ◌^◌, min, nat_eq, nat_le, Bool, true, false, not, ◌&&◌, ◌||◌, if◌then◌else◌, List, [], ◌∷◌}
use Rattle.star_grammar.specs.declared.start.Stand.{Stand}
use Rattle.star_grammar.specs.declared.start.Start.{Start}
use Rattle.star_grammar.specs.declared.start.Start.TheVariants as start
use Rattle.star_grammar.specs.declared.table.Kind.{Kind}
use Rattle.star_grammar.specs.declared.table.Kind.TheVariants as kind
use Rattle.star_grammar.specs.declared.token.Token.{Token}
use Rattle.star_grammar.specs.Language.{kind_of_token, max_blocks}

abbrev pub at_first : Stand
at_first = record { opened = 0; begins = true; depth = 0; base = 0; lambdas = 0; walks = false; line = 0 }

abbrev pub one_more : ℕ → ℕ
one_more n = min (n + 1) (2 ^ 32 - 1)

-- no bracket of an expression and no lambda's parameters are open
abbrev pub is_outside : Stand → Bool
is_outside s = nat_le s.depth s.base && nat_eq s.lambdas 0

-- a `for` with its targets waits for its `in`
abbrev pub ends_targets : Stand → Bool
ends_targets s = s.walks && nat_eq s.depth 0

abbrev pub parts_arguments : Stand → Kind → Bool
parts_arguments s kind.Comma = is_outside s
parts_arguments s k = false

abbrev pub parts_code : Stand → Kind → Bool
parts_code s kind.Assign = is_outside s
parts_code s kind.Augment = true
parts_code s kind.Semicolon = true
parts_code s kind.LineEnd = true
parts_code s kind.Return = true
parts_code s kind.Elif = true
parts_code s kind.Def = true
parts_code s kind.If = s.begins
parts_code s kind.For = s.begins
parts_code s kind.In = ends_targets s
parts_code s k = false

-- another expression begins behind such a token
abbrev pub parts : Start → Stand → Kind → Bool
parts start.Args s k = parts_arguments s k
parts st s k = parts_code s k

abbrev pub is_opener : Kind → Bool
is_opener kind.Def = true
is_opener kind.If = true
is_opener kind.For = true
is_opener k = false

abbrev pub opened_after : Stand → Kind → ℕ
opened_after s kind.EndWord = s.opened - 1
opened_after s k = if s.begins && is_opener k then one_more s.opened else s.opened

abbrev pub depth_after : Stand → Kind → ℕ
depth_after s kind.Open = one_more s.depth
depth_after s kind.OpenBracket = one_more s.depth
depth_after s kind.OpenBrace = one_more s.depth
depth_after s kind.Close = s.depth - 1
depth_after s kind.CloseBracket = s.depth - 1
depth_after s kind.CloseBrace = s.depth - 1
depth_after s k = s.depth

abbrev pub base_after : Stand → Kind → ℕ
base_after s kind.Def = 1
base_after s kind.LineEnd = 0
base_after s k = s.base

abbrev pub lambdas_after : Stand → Kind → ℕ
lambdas_after s kind.Lambda = if nat_le s.depth s.base then one_more s.lambdas else s.lambdas
lambdas_after s kind.Colon = if nat_le s.depth s.base then s.lambdas - 1 else s.lambdas
lambdas_after s k = s.lambdas

abbrev pub walks_after : Stand → Kind → Bool
walks_after s kind.For = s.begins || s.walks
walks_after s kind.In = s.walks && not (ends_targets s)
walks_after s k = s.walks

abbrev pub is_line_end : Kind → Bool
is_line_end kind.LineEnd = true
is_line_end k = false

abbrev pub line_after : Start → Stand → Kind → ℕ → ℕ
line_after st s k line = if parts st s k then 0 else if nat_eq s.line 0 then line else s.line

abbrev pub stand_after : Start → Stand → Kind → ℕ → Stand
stand_after st s k line = record {
  opened = opened_after s k;
  begins = is_line_end k;
  depth = depth_after s k;
  base = base_after s k;
  lambdas = lambdas_after s k;
  walks = walks_after s k;
  line = line_after st s k line;
}

abbrev pub stands : Start → Stand → List Token → Stand
stands st s [] = s
stands st s (k ∷ ks) = stands st (stand_after st s (kind_of_token k.kind) k.line) ks

-- the token would open one block more than may be open
abbrev pub opens_too_many : Stand → Kind → Bool
opens_too_many s k = s.begins && is_opener k && nat_eq s.opened max_blocks
