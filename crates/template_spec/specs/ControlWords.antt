-- Where `break`, `continue` and `return` may stand: none leaves a node open.
use Rattle.code_spec.specs.Code.{Statement, return, break, continue}
use Rattle.template_spec.specs.Template.{Item, node, code, if_block, for_block, def_block, Items, no_items, an_item, Branches, no_branch, else_branch, elif_branch, Content, written_value, value_from, pairs, elements}

-- which words may leave the place: any, those of a loop, or none
pub data Around : Type 0 where
  free : Around
  in_loop : Around
  in_node : Around

abbrev pub within_loop : Around → Around
within_loop free = free
within_loop in_loop = in_loop
within_loop in_node = in_loop

abbrev pub MayStand : Around → Statement → Type 0
MayStand free s = Unit {0}
MayStand in_loop (return p e) = ⊥
MayStand in_loop _ = Unit {0}
MayStand in_node (return p e) = ⊥
MayStand in_node (break p) = ⊥
MayStand in_node (continue p) = ⊥
MayStand in_node _ = Unit {0}

abbrev mutual
  pub ItemWordsStand : Around → Item → Type 0
  ItemWordsStand w (node p kind ns key c) = ContentWordsStand c
  ItemWordsStand w (code s) = MayStand w s
  ItemWordsStand w (if_block p e body more) = WordsStand w body × BranchWordsStand w more
  ItemWordsStand w (for_block p x e body) = WordsStand (within_loop w) body
  ItemWordsStand w (def_block p number x ps kind body) = WordsStand free body

  pub WordsStand : Around → Items → Type 0
  WordsStand w no_items = Unit {0}
  WordsStand w (an_item i is) = ItemWordsStand w i × WordsStand w is

  pub BranchWordsStand : Around → Branches → Type 0
  BranchWordsStand w no_branch = Unit {0}
  BranchWordsStand w (else_branch p body) = WordsStand w body
  BranchWordsStand w (elif_branch p e body more) = WordsStand w body × BranchWordsStand w more

  pub ContentWordsStand : Content → Type 0
  ContentWordsStand (written_value x) = Unit {0}
  ContentWordsStand (value_from e) = Unit {0}
  ContentWordsStand (pairs is) = WordsStand in_node is
  ContentWordsStand (elements is) = WordsStand in_node is
