-- Laws of `ExpandCall.antt`, and the steps of `expand`. `expanded-is_layout`: what `expand` wrote passes the check of lent layout words; `expanded-fits`: it is
-- no more than was lent; `expanded-few`: the nodes spent are at most 4,096. Assumes nothing.
use Rattle.std.specs.Prelude.{◌≡◌, refl, ℕ, suc, ◌+◌, ◌*◌, ◌-◌, ◌≤◌, ◌<◌, Bool, true, false, cond, List, [], ◌++◌, leb, take, drop, Result, Ok, Err}
use Rattle.std.proofs.Common.{sym, ◌∙◌, length-take-le, le-leb, leb-true}
use Rattle.std.proofs.Math.Path.{ap}
use native.Mathlib.Omega.{arith}
use Rattle.std.proofs.Math.ListN.{length}
use Rattle.std.proofs.lemmas.List.Edits.{sets}
use Rattle.std.proofs.lemmas.Bool.{lt-leb}
use Rattle.refusals.specs.declared.refusal.Refusal.{Refusal}
use Rattle.refusals.specs.declared.refusal.Refusal.TheVariants.{UnknownForm, SpaceShort}
use Rattle.dictionary.specs.DictionaryCheck.{is_dictionary}
use Rattle.layouts.specs.Limits.{gate_limits}
use Rattle.layouts.specs.Layout.{Layout, groups_of}
use Rattle.layouts.specs.LayoutLaws.{group_total, group_total-first, groups_below-total}
use Rattle.layouts.specs.LayoutWords.{first_member, arranged}
use Rattle.layouts.specs.LayoutCheck.{is_layout}
use Rattle.layouts.specs.LayoutCheckComplete.{arranged-is_layout}
use Rattle.layouts.specs.GatheredLayout.{Gathered, RowsInside, gathered_words}
use Rattle.layouts.specs.GatheredLayoutLaws.{gathered-needed, gathered-written, gathered-inside}
use Rattle.expansion.specs.declared.builder.Builder as Code
use Rattle.expansion.specs.declared.builder.Stop.TheVariants.{Error, NoRoom}
use Rattle.arrange.specs.declared.arrange.Gathering.{Gathering}
use Rattle.expand.specs.declared.expand_call.Expanded.{Expanded}
use Rattle.bodies.specs.DictionaryInWords.{dictionary_in, expansion_in}
use Rattle.expansion.specs.Expansion as definition
use Rattle.expansion.specs.Expansion.{OpenLevel, finish}
use Rattle.expansion.specs.ExpansionLaws.{expanded-nodes}
use Rattle.expansion.specs.ExpansionRules.{expanded-rules}
use Rattle.expansion.specs.ExpansionLimits.{expanded-limits}
use Rattle.expansion.specs.ExpansionGroups.{expanded-groups}
use Rattle.expansion.specs.Trace.{Fits}
use Rattle.build.specs.BuildPromises.{top_frame, Traced}
use Rattle.arrange_level.specs.ArrangeTrace.{group_at, top_start}
use Rattle.arrange_level.specs.ArrangeTraceLaws.{trace-told}
use Rattle.arrange_level.specs.ArrangeWeightLaws.{members-counted, required-counted, groups-counted}
use Rattle.arrange.specs.ArrangeGather.{layout_told, level_count, GatherRoom, GatheredIn}
use Rattle.arrange.specs.ArrangeGatherLaws.{level_count-within}
use Rattle.expand.specs.ExpandCall.{layout_answer, layout_with, expanded_of, expanded_in}
use Rattle.expand.specs.ExpandSteps.{told_answer, told_with}
use Rattle.expansion.specs.declared.builder.Builder.{Builder}
use Rattle.expansion.specs.declared.builder.Stop.{Stop}

-- ---- the memory for arranging

-- a trace of so many words tells of a level for each word at most, and of the top
pub short-levels : (size : ℕ) (trace : List ℕ) → length trace ≤ size → level_count trace ≤ size + 1
short-levels size trace short = omega (arith, level_count-within trace, groups-counted trace, short)

pub gather_room : (size : ℕ) (trace members required tags rows : List ℕ)
    → size ≤ 14336
    → length trace ≤ size
    → level_count trace ≤ 4097
    → length members ≡ size
    → length required ≡ size
    → length tags ≡ size
    → 6 * level_count trace ≤ length rows
    → GatherRoom trace members required tags rows
gather_room size trace members required tags rows small short few one two three four = record {
  short = omega (arith, short, small);
  for_members = omega (arith, members-counted trace, short, one);
  for_required = omega (arith, required-counted trace, short, two);
  for_tags = omega (arith, groups-counted trace, short, three);
  for_rows = four;
  few = omega (arith, few);
}

-- the memory of a size that is small, and the most
pub short-room : (size : ℕ) → size ≤ 1024 → (trace : List ℕ) → length trace ≤ size → (members required tags rows : List ℕ)
    → length members ≡ size
    → length required ≡ size
    → length tags ≡ size
    → length rows ≡ 6 * size + 6
    → GatherRoom trace members required tags rows
short-room size small trace short members required tags rows one two three four =
    let few = short-levels size trace short in
    gather_room size trace members required tags rows (omega arith) short (omega (arith, few)) one two three (omega (arith, few, four))

pub long_room : (trace members required tags rows : List ℕ)
    → length trace ≤ 14336
    → level_count trace ≤ 4097
    → length members ≡ 14336
    → length required ≡ 14336
    → length tags ≡ 14336
    → length rows ≡ 24582
    → GatherRoom trace members required tags rows
long_room trace members required tags rows short few one two three four =
    gather_room 14336 trace members required tags rows (omega arith) short few one two three (omega (arith, few, four))

-- ---- arrange

module _ (trace members required rows : List ℕ) (nodes : ℕ) (all : Gathering) (gathered : GatheredIn trace members required rows all)
    (short : length members ≤ 14336) (also : length required ≤ 14336) (few : level_count trace ≤ 4097) (words : List ℕ)
  where
    abbrev groups : ℕ
    groups = all.levels - 1

    -- what `put_layout` is lent
    abbrev lent_members : List ℕ
    lent_members = take all.members members

    abbrev lent_required : List ℕ
    lent_required = take all.required required

    abbrev lent_rows : List ℕ
    lent_rows = take (6 * all.levels) rows

    abbrev needed : ℕ
    needed = 7 + 6 * groups + all.members + all.required

    parts-lent : Gathered (layout_told trace) groups lent_members lent_required lent_rows
    parts-lent = gathered.parts

    members-lent : length lent_members ≡ all.members
    members-lent = length-take-le all.members members gathered.members_inside

    required-lent : length lent_required ≡ all.required
    required-lent = length-take-le all.required required gathered.required_inside

    whole : length (arranged (layout_told trace)) ≡ needed
    whole = omega (arith, gathered-needed (layout_told trace) groups lent_members lent_required lent_rows parts-lent, members-lent, required-lent)

    pub needed-fits : needed < 4294967296
    needed-fits = omega (arith, gathered.few_levels, few, gathered.members_inside, gathered.required_inside, short, also)

    pub layout-short : length words < needed → (Err (SpaceShort needed) ≡ told_answer trace nodes (length words)) × (words ≡ told_with trace nodes words)
    layout-short small = rw (whole, lt-leb needed (length words) small) (refl, refl)

    module _ (room : needed ≤ length words) where
      pub layout-asks : (first_member groups + length lent_members + length lent_required ≤ length words)
          × (first_member groups + length lent_members + length lent_required < 4294967296)
          × RowsInside groups lent_members lent_required lent_rows
      layout-asks = (
        omega (arith, members-lent, required-lent, room),
        omega (arith, members-lent, required-lent, needed-fits),
        gathered-inside (layout_told trace) groups lent_members lent_required lent_rows parts-lent,
      )

      pub layout-written : (words_now : List ℕ)
          → words_now ≡ sets words 0 (gathered_words groups lent_members lent_required lent_rows)
          → (Ok (record { nodes = nodes; words = needed }) ≡ told_answer trace nodes (length words)) × (words_now ≡ told_with trace nodes words)
      layout-written words_now written =
          let layout = layout_told trace in
          let put : words_now ≡ arranged layout ++ drop (length (arranged layout)) words =
          written ∙ gathered-written layout groups lent_members lent_required lent_rows parts-lent words (omega (arith, members-lent, required-lent, room)) in
          let fits : length (arranged layout) ≤ length words = omega (arith, whole, room) in
          rw (le-leb (length (arranged layout)) (length words) fits) (ap (λ (count : ℕ). Ok (record { nodes = nodes; words = count })) (sym whole), put)

-- ---- expand

module _ (dictionary type : List ℕ) (words : List ℕ) where
  pub expand_no_dictionary : is_dictionary dictionary ≡ false
      → (Err (UnknownForm 0) ≡ expanded_of dictionary type (length words)) × (words ≡ expanded_in dictionary type words)
  unfolding expanded_of expanded_in
  expand_no_dictionary fails = rw fails (refl, refl)

  module _ (passes : is_dictionary dictionary ≡ true) (outcome : Result Builder Stop) (trace : List ℕ) (traced : Traced dictionary type outcome trace) where
    pub expand_refused : (refusal : Refusal)
        → outcome ≡ Err (Error refusal)
        → (Err refusal ≡ expanded_of dictionary type (length words)) × (words ≡ expanded_in dictionary type words)
    unfolding Traced expanded_of expanded_in
    expand_refused refusal is = let given : expansion_in dictionary type ≡ definition.Refused refusal = rw is at traced in rw (passes, given) (refl, refl)

    -- a trace that has a word for each step that the limits allow has room
    pub expand_room : outcome ≡ Err NoRoom → length trace < 14336
    unfolding Traced
    expand_room is = rw is at traced

    module _ (builder : Code.Builder) (is : outcome ≡ Ok builder) where
      abbrev pub told : List ℕ
      told = take builder.len trace

      done : Traced dictionary type (Ok builder) trace
      done = rw is at traced

      same_layout : expansion_in dictionary type ≡ definition.Expanded (layout_told told) builder.nodes
      unfolding Traced
      same_layout =
          let level = done.0 in
          let stands = trace-told told (top_frame level) done.1.0 in
          done.1.1.0 ∙ ap (λ (reached : OpenLevel). definition.Expanded (finish reached) builder.nodes) stands

      fits : Fits builder
      unfolding Traced
      fits = done.1.1.1

      pub trace-short : builder.len ≤ 14336
      trace-short = omega (arith, fits.nodes, fits.members, fits.required, fits.len)

      pub told-length : builder.len ≤ length trace → length told ≡ builder.len
      told-length inside = length-take-le builder.len trace inside

      pub told-short : builder.len ≤ length trace → length told ≤ 14336
      told-short inside = omega (arith, told-length inside, trace-short)

      pub few_levels : level_count told ≤ 4097
      few_levels =
          let below : level_count told ≡ suc (group_total (groups_of (layout_told told))) = group_total-first (group_at told top_start) [] in
          omega (
            arith,
            below,
            groups_below-total (layout_told told),
            expanded-groups gate_limits (dictionary_in dictionary) (dictionary_in dictionary) type (layout_told told) builder.nodes same_layout,
          )

      pub expand_arranged : (answer : Result Expanded Refusal) (words_now : List ℕ)
          → answer ≡ told_answer told builder.nodes (length words)
          → words_now ≡ told_with told builder.nodes words
          → (answer ≡ expanded_of dictionary type (length words)) × (words_now ≡ expanded_in dictionary type words)
      unfolding expanded_of expanded_in
      expand_arranged answer words_now answered written = rw (passes, same_layout) (answered, written)

-- ---- what was written is a layout's

abbrev words_in : Result Expanded Refusal → ℕ
words_in (Ok expanded) = expanded.words
words_in (Err refusal) = 0

abbrev nodes_in : Result Expanded Refusal → ℕ
nodes_in (Ok expanded) = expanded.nodes
nodes_in (Err refusal) = 0

module _ (dictionary type words : List ℕ) (nodes written : ℕ) where
  room_by : (test : Bool) (layout : Layout) (spent : ℕ)
      → is_layout gate_limits (arranged layout ++ drop (length (arranged layout)) words) ≡ true
      → cond {A = Result Expanded Refusal} test (Ok (record { nodes = spent; words = (length (arranged layout)) })) (Err (SpaceShort (length (arranged layout)))) ≡ Ok (record { nodes = nodes; words = written })
      → is_layout gate_limits (cond test (arranged layout ++ drop (length (arranged layout)) words) words) ≡ true
  room_by true layout spent holds given = holds
  room_by false layout spent holds given = let never : ◌≡◌ {A = ℕ} 0 1 = cc in absurd (omega arith)

  expansion_by : (expansion : definition.Expansion)
      → expansion_in dictionary type ≡ expansion
      → layout_answer expansion (length words) ≡ Ok (record { nodes = nodes; words = written })
      → is_layout gate_limits (layout_with expansion words) ≡ true
  expansion_by (definition.Expanded layout spent) is given =
      room_by (leb (length (arranged layout)) (length words)) layout spent
      (arranged-is_layout gate_limits layout (drop (length (arranged layout)) words)
      (expanded-rules gate_limits (dictionary_in dictionary) (dictionary_in dictionary) type layout spent is)
      (expanded-limits gate_limits (dictionary_in dictionary) (dictionary_in dictionary) type layout spent is))
      given
  expansion_by (definition.Refused refusal) is given = let never : ◌≡◌ {A = ℕ} 0 1 = cc in absurd (omega arith)

  check_by : (test : Bool)
      → cond test (layout_answer (expansion_in dictionary type) (length words)) (Err (UnknownForm 0)) ≡ Ok (record { nodes = nodes; words = written })
      → is_layout gate_limits (cond test (layout_with (expansion_in dictionary type) words) words) ≡ true
  check_by true given = expansion_by (expansion_in dictionary type) refl given
  check_by false given = let never : ◌≡◌ {A = ℕ} 0 1 = cc in absurd (omega arith)

  -- the words that were written were lent
  fits_by : (test : Bool) (size spent : ℕ) → leb size (length words) ≡ test → cond {A = Result Expanded Refusal} test (Ok (record { nodes = spent; words = size })) (Err (SpaceShort size)) ≡ Ok (record { nodes = nodes; words = written }) → written ≤ length words
  fits_by true size spent inside given = let same : size ≡ written = ap words_in given in omega (arith, leb-true size (length words) inside, same)
  fits_by false size spent inside given = let never : ◌≡◌ {A = ℕ} 0 1 = cc in absurd (omega arith)

  answer-fits : (expansion : definition.Expansion) → layout_answer expansion (length words) ≡ Ok (record { nodes = nodes; words = written }) → written ≤ length words
  answer-fits (definition.Expanded layout spent) given = fits_by (leb (length (arranged layout)) (length words)) (length (arranged layout)) spent refl given
  answer-fits (definition.Refused refusal) given = let never : ◌≡◌ {A = ℕ} 0 1 = cc in absurd (omega arith)

  check_fits : (test : Bool) → cond test (layout_answer (expansion_in dictionary type) (length words)) (Err (UnknownForm 0)) ≡ Ok (record { nodes = nodes; words = written }) → written ≤ length words
  check_fits true given = answer-fits (expansion_in dictionary type) given
  check_fits false given = let never : ◌≡◌ {A = ℕ} 0 1 = cc in absurd (omega arith)

  pub expanded-fits : expanded_of dictionary type (length words) ≡ Ok (record { nodes = nodes; words = written }) → written ≤ length words
  unfolding expanded_of
  expanded-fits given = check_fits (is_dictionary dictionary) given

  pub expanded-is_layout : expanded_of dictionary type (length words) ≡ Ok (record { nodes = nodes; words = written }) → is_layout gate_limits (expanded_in dictionary type words) ≡ true
  unfolding expanded_of expanded_in
  expanded-is_layout given = check_by (is_dictionary dictionary) given

-- ---- the nodes spent

module _ (dictionary type : List ℕ) (space nodes written : ℕ) where
  few-by : (test : Bool) (size spent : ℕ) → spent ≤ 4096 → cond {A = Result Expanded Refusal} test (Ok (record { nodes = spent; words = size })) (Err (SpaceShort size)) ≡ Ok (record { nodes = nodes; words = written }) → nodes ≤ 4096
  few-by true size spent few given = let same : spent ≡ nodes = ap nodes_in given in omega (arith, few, same)
  few-by false size spent few given = let never : ◌≡◌ {A = ℕ} 0 1 = cc in absurd (omega arith)

  answer-few : (expansion : definition.Expansion) → expansion_in dictionary type ≡ expansion → layout_answer expansion space ≡ Ok (record { nodes = nodes; words = written }) → nodes ≤ 4096
  answer-few (definition.Expanded layout spent) is given =
      few-by (leb (length (arranged layout)) space) (length (arranged layout)) spent
      (expanded-nodes gate_limits (dictionary_in dictionary) (dictionary_in dictionary) type layout spent is)
      given
  answer-few (definition.Refused refusal) is given = let never : ◌≡◌ {A = ℕ} 0 1 = cc in absurd (omega arith)

  check_few : (test : Bool) → cond test (layout_answer (expansion_in dictionary type) space) (Err (UnknownForm 0)) ≡ Ok (record { nodes = nodes; words = written }) → nodes ≤ 4096
  check_few true given = answer-few (expansion_in dictionary type) refl given
  check_few false given = let never : ◌≡◌ {A = ℕ} 0 1 = cc in absurd (omega arith)

  pub expanded-few : expanded_of dictionary type space ≡ Ok (record { nodes = nodes; words = written }) → nodes ≤ 4096
  unfolding expanded_of
  expanded-few given = check_few (is_dictionary dictionary) given
