-- The rules of a layout, level by level: what the check asks of the members, count tags and delimiters of all levels is what the seven rules
-- ask of the layout. Assumes nothing.
use Rattle.std.specs.Prelude.{◌≡◌, refl, Bool, true, false, ◌&&◌, List, [], ◌∷◌, map}
use Rattle.std.proofs.Common.{sym, ap, ap₂, ◌∙◌}
use Rattle.ascii.specs.NotationLaws.{and-false}
use Rattle.layouts.specs.Layout.{Group, Layout, members_of, groups_of, count_tags_of, delimiter, entry, groups_below, level_order, all_groups, all_levels}
use Rattle.layouts.specs.LayoutLaws.{every_listed, every_group-below, level_order-every, groups_below-total}
use Rattle.layouts.specs.LayoutRules.{is_ascending, are_among, rule1, rule2, rule3, rule4, meets_group_rules, meets_top_rules, meets_rules}
use Rattle.layouts.specs.LayoutCheck.{is_level, levels_hold, delimiters_hold}

abbrev groups_hold : List Group → Bool
groups_hold groups = levels_hold (map members_of (map entry groups)) (map count_tags_of (map entry groups)) && delimiters_hold (map members_of (map entry groups)) (map delimiter groups)

-- members, count tags and count tags among the members, then all other levels; the delimiter, then all others
regroup : (members_ascend delimiter-in tags_ascend tags-in levels delimiters : Bool)
    → members_ascend && delimiter-in && tags_ascend && tags-in && (levels && delimiters) ≡ members_ascend && tags_ascend && tags-in && levels && (delimiter-in && delimiters)
regroup false b c d e f = refl
regroup true true c d e f = shift c d e f
  where
    shift : (c d e f : Bool) → c && d && (e && f) ≡ c && d && e && f
    shift true true true f = refl
    shift true true false f = refl
    shift true false e f = refl
    shift false d e f = refl
regroup true false c d e f = sym (and-false (c && d && e))

pub every_listed-rules : (groups : List Group) → every_listed meets_group_rules groups ≡ groups_hold groups
unfolding every_listed levels_hold delimiters_hold is_level
every_listed-rules [] = refl
every_listed-rules (first ∷ others) =
    ap (λ (rest : Bool). meets_group_rules first && rest) (every_listed-rules others)
    ∙ regroup
    (rule1 first)
    (rule2 first)
    (rule3 first)
    (rule4 first)
    (levels_hold (map members_of (map entry others)) (map count_tags_of (map entry others)))
    (delimiters_hold (map members_of (map entry others)) (map delimiter others))

pub top-rules : (top : Layout) → meets_top_rules top ≡ is_level (members_of top) (count_tags_of top)
unfolding is_level
top-rules top = swap (is_ascending (count_tags_of top)) (is_ascending (members_of top)) (are_among (members_of top) (count_tags_of top))
  where
    swap : (a b c : Bool) → a && b && c ≡ b && a && c
    swap true true c = refl
    swap true false c = refl
    swap false true c = refl
    swap false false c = refl

pub meets_rules-levels : (layout : Layout)
    → meets_rules layout
    ≡ levels_hold (map members_of (all_levels layout)) (map count_tags_of (all_levels layout)) && delimiters_hold (map members_of (map entry (all_groups layout))) (map delimiter (all_groups layout))
unfolding meets_rules levels_hold all_groups
meets_rules-levels layout =
    ap₂ (λ (a b : Bool). a && b)
    (top-rules layout)
    (every_group-below meets_group_rules layout ∙ sym (level_order-every meets_group_rules (groups_below layout) (groups_of layout) (sym (groups_below-total layout))) ∙ every_listed-rules (level_order (groups_below layout) (groups_of layout)))
    ∙ shift
    (is_level (members_of layout) (count_tags_of layout))
    (levels_hold (map members_of (map entry (level_order (groups_below layout) (groups_of layout)))) (map count_tags_of (map entry (level_order (groups_below layout) (groups_of layout)))))
    (delimiters_hold (map members_of (map entry (level_order (groups_below layout) (groups_of layout)))) (map delimiter (level_order (groups_below layout) (groups_of layout))))
  where
    shift : (a b c : Bool) → a && (b && c) ≡ a && b && c
    shift true b c = refl
    shift false b c = refl
