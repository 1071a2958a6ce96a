-- Layout texts read by `read_outcome` and `read_words`: the layout of the worked example of document 01 ('One list in full'), and texts that
-- break one thing. Assumes nothing.
use Rattle.std.specs.Prelude.{ℕ, ◌≡◌, refl, true, List, [], ◌∷◌, replicate, Ok, Err}
use Rattle.ascii.specs.Notation.{is_between}
use Rattle.ascii.specs.Bytes.{ascii, non_empty}
use Rattle.ascending.specs.Sort.{is_in}
use Rattle.ascending.specs.Search.{is_strictly_above, is_strictly_ascending}
use Rattle.refusals.specs.declared.refusal.Refusal.TheVariants.{NotAllowed, RuleBroken, SpaceShort}
use Rattle.lines.specs.Lines.{position_of, starts_with, is_same, longer, cut}
use Rattle.lines.specs.LineParts.{no_leading_zero, number_of, flag_of, word_at, is_alphanumeric, message_type_of}
use Rattle.line_forms.specs.LineForms.{field_of, group_rest, group_of, end_of, block_line_of, definition_line_of, line_of}
use Rattle.layout_text.specs.LayoutText.{level_step_of, layout_order_from, layout_order_of, layout_text_of}
use Rattle.layouts.specs.Layout.{level_of_lem, no_groups, group_and, group_of_lem, groups_below, level_order, all_groups, joined}
use Rattle.layouts.specs.LayoutWords.{places_from, arranged_parts, arranged}
use Rattle.layout_text.specs.LevelLines.{level_line_of, lines_in}
use Rattle.layout_text.specs.LayoutOfText.{level_from, layout_of}
use Rattle.layout_rules.specs.FirstBroken.{own_broken, top_broken, first_below, first_broken}
use Rattle.read_layout.specs.ReadLayout.{layout_outcome, read_outcome, read_words}

abbrev parties_text : List ℕ
parties_text = ascii "member=35\nmember=453\nrequired=35\ngroup=453,448,1\nmember=447\nmember=448\nrequired=447\nend=453\n"

pub record ReadLayoutCases : Type 0 where
  pub parties_told : layout_of parties_text
      ≡ level_of_lem (35 ∷ 453 ∷ []) (35 ∷ []) (group_and (group_of_lem 453 448 true (level_of_lem (447 ∷ 448 ∷ []) (447 ∷ []) no_groups)) no_groups)
  pub parties_written : read_outcome parties_text 20 ≡ Ok 19
  pub parties_words_lem : read_words parties_text (replicate 20 7)
      ≡ 1 ∷ 13 ∷ 15 ∷ 17 ∷ 17 ∷ 18 ∷ 19 ∷ 10 ∷ 11 ∷ 11 ∷ 453 ∷ 448 ∷ 1 ∷ 35 ∷ 453 ∷ 447 ∷ 448 ∷ 35 ∷ 447 ∷ 7 ∷ []
  pub space_short : read_outcome parties_text 18 ≡ Err (SpaceShort 19)
  pub short_keeps : read_words parties_text (replicate 18 7) ≡ replicate 18 7
  pub empty_text : read_outcome (ascii "") 7 ≡ Ok 7
  pub text_first : read_outcome (ascii "member=2\nmember=1\ngroup=1,1,0\n") 0 ≡ Err (NotAllowed 4)
  -- the group nested in 1 ends first
  pub nested_first : read_outcome (ascii "member=2\nmember=1\ngroup=1,8,0\nmember=2\ngroup=2,9,0\nmember=3\nend=2\nend=1\n") 0 ≡ Err (RuleBroken 2 2)
  -- of one group the lowest rule
  pub lowest_rule : read_outcome (ascii "group=1,9,0\nmember=3\nmember=3\nend=1\n") 0 ≡ Err (RuleBroken 1 1)
  -- of two groups the one that ends first, though the later one breaks a lower rule
  pub earlier_group : read_outcome (ascii "group=1,9,0\nmember=3\nend=1\ngroup=1,9,0\nmember=3\nmember=3\nend=1\n") 0 ≡ Err (RuleBroken 2 1)
  pub top_last : read_outcome (ascii "member=2\nmember=1\ngroup=1,9,0\nmember=8\nend=1\n") 0 ≡ Err (RuleBroken 2 1)
  pub groups_descend : read_outcome (ascii "member=2\nmember=1\ngroup=2,9,0\nmember=9\nend=2\ngroup=1,9,0\nmember=9\nend=1\n") 0 ≡ Err (RuleBroken 5 0)
  pub members_descend : read_outcome (ascii "member=2\nmember=1\n") 0 ≡ Err (RuleBroken 6 0)
  pub no_member : read_outcome (ascii "member=2\ngroup=1,9,0\nmember=9\nend=1\n") 0 ≡ Err (RuleBroken 7 0)

pub read-layout_cases : ReadLayoutCases
unfolding is_between non_empty is_in is_strictly_above is_strictly_ascending position_of starts_with is_same longer cut no_leading_zero number_of flag_of word_at is_alphanumeric message_type_of field_of group_rest group_of end_of block_line_of definition_line_of line_of level_step_of layout_order_from layout_order_of layout_text_of groups_below level_order all_groups joined places_from arranged_parts arranged level_line_of lines_in level_from layout_of own_broken top_broken first_below first_broken layout_outcome read_outcome read_words
read-layout_cases = record {
  parties_told = refl;
  parties_written = refl;
  parties_words_lem = refl;
  space_short = refl;
  short_keeps = refl;
  empty_text = refl;
  text_first = refl;
  nested_first = refl;
  lowest_rule = refl;
  earlier_group = refl;
  top_last = refl;
  groups_descend = refl;
  members_descend = refl;
  no_member = refl;
}
