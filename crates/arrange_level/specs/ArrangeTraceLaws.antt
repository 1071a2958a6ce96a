-- Laws of `ArrangeTrace.antt`. `trace-told`: where the steps of a trace leave the top alone in work, the levels read by position are those
-- of the steps. Assumes nothing.
--
--   Step word                      which of the four steps a word is
--   level_of trace turns own        the level of what was told, its groups read with so many turns
--   Closed, Ends                   where the steps from a place on end with the top alone: the level in work is told up to its end, and where
--                                  it is a group's, the steps go on behind the word that leaves it, which passing over finds too
use Rattle.std.proofs.Math.Path.{◌≡◌, refl, sym, ap}
use Rattle.std.proofs.Common.{◌∙◌, arith, drop_of_length-le, drop-drop, eqb-true, ne_eqb}
use Prim.Native.Nat.{ℕ, zero, suc, ◌+◌, ◌≤◌, ◌<◌, ◌%◌, ◌/◌}
use Rattle.std.specs.Prelude.{Bool, true, false, eqb, drop}
use mathlib.Core.List.{List, [], ◌∷◌, ◌++◌, map}
use Rattle.std.proofs.Math.ListN.{length}
use Rattle.std.proofs.lemmas.Bool.{eqb-false}
use Rattle.layouts.specs.Layout.{Group, group_of_lem}
use Rattle.layouts.specs.LayoutLaws.{map-append}
use Rattle.expansion.specs.Expansion.{OpenLevel, empty_level, finish_entry}
use Rattle.expansion.specs.Trace.{Frame, with_level, with_member, with_required, left, tag_in, count_tag_in, after, run, at_start}
use Rattle.arrange_level.specs.ArrangeTrace.{Start, Own, nothing_own, own_member, own_required, start_of, own_group, own_left, told, own_at, group_with, with_groups, level_within, level_at, group_at}

-- ---- the four steps

pub data Step (word : ℕ) : Type 0 where
  adds_member : word % 4 ≡ 0 → Step word
  adds_required : word % 4 ≡ 1 → Step word
  enters : word % 4 ≡ 2 → Step word
  leaves : word % 4 ≡ 3 → Step word

step_by : (word : ℕ) (first second third : Bool) → eqb (word % 4) 0 ≡ first → eqb (word % 4) 1 ≡ second → eqb (word % 4) 2 ≡ third → Step word
step_by word true second third one two three = adds_member (eqb-true (word % 4) 0 one)
step_by word false true third one two three = adds_required (eqb-true (word % 4) 1 two)
step_by word false false true one two three = enters (eqb-true (word % 4) 2 three)
step_by word false false false one two three =
    leaves (omega (arith, eqb-false (word % 4) 0 one, eqb-false (word % 4) 1 two, eqb-false (word % 4) 2 three))

pub step_of : (word : ℕ) → Step word
step_of word = step_by word (eqb (word % 4) 0) (eqb (word % 4) 1) (eqb (word % 4) 2) refl refl refl

-- ---- told, a word at a time

module _ (place word : ℕ) (words : List ℕ) (own : Own) where
  pub told-member : word % 4 ≡ 0 → told place 0 (word ∷ words) own ≡ told (place + 1) 0 words (own_member word own)
  unfolding told
  told-member step = rw step

  pub told-required : word % 4 ≡ 1 → told place 0 (word ∷ words) own ≡ told (place + 1) 0 words (own_required word own)
  unfolding told
  told-required step = rw step

  pub told-group : word % 4 ≡ 2 → told place 0 (word ∷ words) own ≡ told (place + 1) 1 words (own_group word (place + 1) own)
  unfolding told
  told-group step = rw step

  pub told-left : word % 4 ≡ 3 → told place 0 (word ∷ words) own ≡ own_left word own
  unfolding told
  told-left step = rw step

  -- inside a group that is passed over
  module _ (depth : ℕ) where
    pub passed-member : word % 4 ≡ 0 → told place (suc depth) (word ∷ words) own ≡ told (place + 1) (suc depth) words own
    unfolding told
    passed-member step = rw step

    pub passed-required : word % 4 ≡ 1 → told place (suc depth) (word ∷ words) own ≡ told (place + 1) (suc depth) words own
    unfolding told
    passed-required step = rw step

    pub passed-group : word % 4 ≡ 2 → told place (suc depth) (word ∷ words) own ≡ told (place + 1) (suc (suc depth)) words own
    unfolding told
    passed-group step = rw step

    pub passed-left : word % 4 ≡ 3 → told place (suc depth) (word ∷ words) own ≡ told (place + 1) depth words own
    unfolding told
    passed-left step = rw step

pub told-ends : (place depth : ℕ) (own : Own) → told place depth [] own ≡ own
unfolding told
told-ends place zero own = refl
told-ends place (suc depth) own = refl

-- ---- a group begins behind the level around

unfoldable pub AllBehind : ℕ → List Start → Type 0
AllBehind place [] = Unit
AllBehind place (start ∷ rest) = (place < start.first) × AllBehind place rest

pub behind_more : (place : ℕ) (starts : List Start) (start : Start) → AllBehind place starts → place < start.first → AllBehind place (starts ++ (start ∷ []))
unfolding AllBehind
behind_more place [] start all later = (later, tt)
behind_more place (first ∷ rest) start all later = (all.0, behind_more place rest start all.1 later)

pub behind-nothing : (place : ℕ) → AllBehind place []
unfolding AllBehind
behind-nothing place = tt

pub told-behind : (low place depth : ℕ) (words : List ℕ) (own : Own) → low ≤ place → AllBehind low own.starts → AllBehind low (told place depth words own).starts
told-behind low place depth [] own from all = rw (told-ends place depth own) all
told-behind low place zero (word ∷ words) own from all =
    elim (step_of word) [
      | adds_member step ↦ rw (told-member place word words own step) (told-behind low (place + 1) 0 words (own_member word own) (omega arith) all)
      | adds_required step ↦ rw (told-required place word words own step) (told-behind low (place + 1) 0 words (own_required word own) (omega arith) all)
      | enters step ↦
          rw (told-group place word words own step)
          (told-behind low (place + 1) 1 words (own_group word (place + 1) own) (omega arith) (behind_more low own.starts (start_of word (place + 1)) all (omega arith)))
      | leaves step ↦ rw (told-left place word words own step) all
    ]
told-behind low place (suc depth) (word ∷ words) own from all =
    elim (step_of word) [
      | adds_member step ↦ rw (passed-member place word words own depth step) (told-behind low (place + 1) (suc depth) words own (omega arith) all)
      | adds_required step ↦ rw (passed-required place word words own depth step) (told-behind low (place + 1) (suc depth) words own (omega arith) all)
      | enters step ↦ rw (passed-group place word words own depth step) (told-behind low (place + 1) (suc (suc depth)) words own (omega arith) all)
      | leaves step ↦ rw (passed-left place word words own depth step) (told-behind low (place + 1) depth words own (omega arith) all)
    ]

pub own_behind : (trace : List ℕ) (place : ℕ) → AllBehind place (own_at trace place).starts
own_behind trace place = told-behind place place 0 (drop place trace) nothing_own (omega arith) (behind-nothing place)

-- ---- level_within: enough turns are enough

-- what is told from behind the trace is nothing
pub own-past : (trace : List ℕ) (place : ℕ) → length trace ≤ place → own_at trace place ≡ nothing_own
own-past trace place past = rw (drop_of_length-le trace {i = place} past) (told-ends place 0 nothing_own)

module _ (trace : List ℕ) where
  abbrev pub level_of : ℕ → Own → OpenLevel
  level_of turns own = with_groups trace own (map (λ (start : Start). group_with trace start (level_within trace turns start.first)) own.starts)

  pub level_within-own : (turns place : ℕ) → level_within trace (suc turns) place ≡ level_of turns (own_at trace place)
  unfolding level_within
  level_within-own turns place = refl

  level_within-past : (turns place : ℕ) → length trace ≤ place → level_within trace turns place ≡ empty_level
  unfolding level_within
  level_within-past zero place past = refl
  level_within-past (suc turns) place past = ap (level_of turns) (own-past trace place past)

  groups-same : (turns others place : ℕ) (starts : List Start)
      → AllBehind place starts
      → ((start : Start) → place < start.first → level_within trace turns start.first ≡ level_within trace others start.first)
      → map (λ (start : Start). group_with trace start (level_within trace turns start.first)) starts
      ≡ map (λ (start : Start). group_with trace start (level_within trace others start.first)) starts
  unfolding AllBehind
  groups-same turns others place [] all same = refl
  groups-same turns others place (start ∷ rest) all same =
      let first : group_with trace start (level_within trace turns start.first) ≡ group_with trace start (level_within trace others start.first) =
      ap (group_with trace start) (same start all.0) in
      let more = groups-same turns others place rest all.1 same in
      cc

  turns_same : (turns others place : ℕ)
      → length trace ≤ turns + place
      → length trace ≤ others + place
      → level_within trace turns place ≡ level_within trace others place
  turns_same zero others place enough also = sym (level_within-past others place (omega arith) ∙ sym (level_within-past 0 place (omega arith)))
  turns_same (suc turns) zero place enough also = level_within-past (suc turns) place (omega arith) ∙ sym (level_within-past 0 place (omega arith))
  turns_same (suc turns) (suc others) place enough also =
      level_within-own turns place
      ∙ ap (with_groups trace (own_at trace place))
      (groups-same turns others place (own_at trace place).starts (own_behind trace place)
      (λ start later. turns_same turns others start.first (omega arith) (omega arith)))
      ∙ sym (level_within-own others place)

  -- what a level has, with the groups that stand in it
  pub level-told : (place : ℕ) → level_at trace place ≡ with_groups trace (own_at trace place) (map (group_at trace) (own_at trace place).starts)
  level-told place =
      level_within-own (length trace) place
      ∙ ap (with_groups trace (own_at trace place))
      (groups-same (length trace) (suc (length trace)) place (own_at trace place).starts (own_behind trace place)
      (λ start later. turns_same (length trace) (suc (length trace)) start.first (omega arith) (omega arith)))

-- ---- where the steps end with the top alone

run-nothing : (words : List ℕ) → run [] words ≡ []
unfolding run after
run-nothing [] = refl
run-nothing (word ∷ words) = run-nothing words

run_more : (frames : List Frame) (word : ℕ) (words : List ℕ) → run frames (word ∷ words) ≡ run (after frames word) words
unfolding run
run_more frames word words = refl

run_none : (frames : List Frame) → run frames [] ≡ frames
unfolding run
run_none frames = refl

module _ (frame : Frame) (outer : List Frame) (word : ℕ) where
  after-member : word % 4 ≡ 0 → after (frame ∷ outer) word ≡ with_level (with_member (tag_in word) frame.level) frame ∷ outer
  unfolding after
  after-member step = rw step

  after-required : word % 4 ≡ 1 → after (frame ∷ outer) word ≡ with_level (with_required (tag_in word) frame.level) frame ∷ outer
  unfolding after
  after-required step = rw step

  after-group : word % 4 ≡ 2
      → after (frame ∷ outer) word
      ≡ record { count_tag = count_tag_in word; needed = eqb (word / 4 % 2) 1; level = empty_level }
      ∷ with_level (with_member (count_tag_in word) frame.level) frame
      ∷ outer
  unfolding after
  after-group step = rw step

  after-left : word % 4 ≡ 3 → after (frame ∷ outer) word ≡ left (tag_in word) frame outer
  unfolding after
  after-left step = rw step

module _ (trace : List ℕ) (final : Frame) where
  pub record Closed (turns place : ℕ) (own : Own) (frame : Frame) (outer : List Frame) (words : List ℕ) : Type 0 where
    pub next : ℕ
    pub rest : List ℕ
    pub there : drop next trace ≡ rest
    pub shorter : length rest < length words
    pub goes_on : run (left (told place 0 words own).delimiter (with_level (level_of trace turns (told place 0 words own)) frame) outer) rest ≡ final ∷ []
    pub passes : (depth : ℕ) (other : Own) → told place (suc depth) words other ≡ told next depth rest other

  abbrev Ends : ℕ → ℕ → Own → Frame → List Frame → List ℕ → Type 0
  Ends turns place own frame [] words = final ≡ with_level (level_of trace turns (told place 0 words own)) frame
  Ends turns place own frame (around ∷ outer) words = Closed turns place own frame (around ∷ outer) words

  -- what ends from further on ends from here
  ends-from : (turns place later : ℕ) (own others : Own) (frame after-this : Frame) (outer : List Frame) (words rest : List ℕ)
      → told place 0 words own ≡ told later 0 rest others
      → ((depth : ℕ) (other : Own) → told place (suc depth) words other ≡ told later (suc depth) rest other)
      → after-this.count_tag ≡ frame.count_tag
      → after-this.needed ≡ frame.needed
      → length rest < length words
      → Ends turns later others after-this outer rest
      → Ends turns place own frame outer words
  ends-from turns place later own others frame after-this [] words rest same passing tag needed shorter ends =
      ends ∙ rw (tag, needed, same)
  ends-from turns place later own others frame after-this (around ∷ outer) words rest same passing tag needed shorter ends = record {
    next = ends.next;
    rest = ends.rest;
    there = ends.there;
    shorter = omega (arith, ends.shorter);
    goes_on = rw (same, ← tag, ← needed) ends.goes_on;
    passes = λ depth other. passing depth other ∙ ends.passes depth other;
  }

  drop-next : (place word : ℕ) (words : List ℕ) → drop place trace ≡ word ∷ words → drop (place + 1) trace ≡ words
  drop-next place word words here = sym (drop-drop 1 place trace) ∙ ap (λ (list : List ℕ). drop 1 list) here

  -- nothing more is read
  ends-here : (turns place : ℕ) (own : Own) (frame : Frame) (outer : List Frame)
      → frame.level ≡ level_of trace turns own
      → frame ∷ outer ≡ final ∷ []
      → Ends turns place own frame outer []
  unfolding told
  ends-here turns place own frame [] level stands =
      let same : frame ≡ final = cc in
      sym same ∙ ap (λ (reached : OpenLevel). with_level reached frame) level
  ends-here turns place own frame (around ∷ outer) level stands = let never : ◌≡◌ {A = ℕ} (suc (length outer)) 0 = ap (λ (frames : List Frame). length (drop 1 frames)) stands in absurd (omega arith)

  -- the word leaves the level in work
  ends-left : (turns place : ℕ) (own : Own) (frame : Frame) (outer : List Frame) (word : ℕ) (words : List ℕ)
      → word % 4 ≡ 3
      → drop (place + 1) trace ≡ words
      → frame.level ≡ level_of trace turns own
      → run (left (tag_in word) frame outer) words ≡ final ∷ []
      → Ends turns place own frame outer (word ∷ words)
  ends-left turns place own frame [] word words step behind level stands =
      let never : ◌≡◌ {A = ℕ} 0 1 = ap length (sym (run-nothing words) ∙ stands) in absurd (omega arith)
  ends-left turns place own frame (around ∷ outer) word words step behind level stands =
      let same : frame ≡ with_level (level_of trace turns own) frame = ap (λ (reached : OpenLevel). with_level reached frame) level in
      let goes : run (left (tag_in word) (with_level (level_of trace turns own) frame) (around ∷ outer)) words ≡ final ∷ [] =
      ap (λ (this : Frame). run (left (tag_in word) this (around ∷ outer)) words) (sym same) ∙ stands in
      record {
        next = place + 1;
        rest = words;
        there = behind;
        shorter = omega arith;
        goes_on = rw (told-left place word words own step) goes;
        passes = λ depth other. passed-left place word words other depth step;
      }

  -- the group that was entered at a place is finished, and stands in the level around
  group-closed : (turns first word : ℕ) (own : Own) (level : OpenLevel) (words : List ℕ)
      → drop (first + 1) trace ≡ words
      → level ≡ level_of trace (suc turns) own
      → record {
        members = level.members ++ (count_tag_in word ∷ []);
        required = level.required;
        groups =
            level.groups
            ++ (group_of_lem (count_tag_in word) (told (first + 1) 0 words nothing_own).delimiter (eqb (word / 4 % 2) 1)
            (finish_entry (told (first + 1) 0 words nothing_own).delimiter (level_of trace turns (told (first + 1) 0 words nothing_own)))
            ∷ []);
      }
      ≡ level_of trace (suc turns) (own_group word (first + 1) own)
  group-closed turns first word own level words behind told-so =
      let begin = start_of word (first + 1) in
      let inner = told (first + 1) 0 words nothing_own in
      let group = group_of_lem (count_tag_in word) inner.delimiter (eqb (word / 4 % 2) 1) (finish_entry inner.delimiter (level_of trace turns inner)) in
      let here : eqb (first + 1) 0 ≡ false = ne_eqb (first + 1) 0 (λ none. omega arith) in
      let same : group_with trace begin (level_within trace (suc turns) (first + 1)) ≡ group =
      rw (level_within-own trace turns (first + 1), here, behind) in
      let all : map (λ (start : Start). group_with trace start (level_within trace (suc turns) start.first)) (own.starts ++ (begin ∷ []))
      ≡ map (λ (start : Start). group_with trace start (level_within trace (suc turns) start.first)) own.starts ++ (group ∷ []) =
      map-append (λ (start : Start). group_with trace start (level_within trace (suc turns) start.first)) own.starts (begin ∷ [])
      ∙ ap
      (λ (last : Group). map (λ (start : Start). group_with trace start (level_within trace (suc turns) start.first)) own.starts ++ (last ∷ []))
      same in
      rw (told-so, all)

  ends : (most turns place : ℕ) (own : Own) (frame : Frame) (outer : List Frame) (words : List ℕ)
      → length words ≤ most
      → most ≤ turns
      → drop place trace ≡ words
      → frame.level ≡ level_of trace turns own
      → run (frame ∷ outer) words ≡ final ∷ []
      → Ends turns place own frame outer words
  ends zero turns place own frame outer [] few enough here level stands = ends-here turns place own frame outer level (sym (run_none (frame ∷ outer)) ∙ stands)
  ends zero turns place own frame outer (word ∷ words) few enough here level stands = absurd (omega arith)
  ends (suc most) turns place own frame outer [] few enough here level stands = ends-here turns place own frame outer level (sym (run_none (frame ∷ outer)) ∙ stands)
  ends (suc most) zero place own frame outer (word ∷ words) few enough here level stands = absurd (omega arith)
  ends (suc most) (suc turns) place own frame outer (word ∷ words) few enough here level stands =
      let behind = drop-next place word words here in
      elim (step_of word) [
        | adds_member step ↦
            ends-from (suc turns) place (place + 1) own (own_member word own) frame (with_level (with_member (tag_in word) frame.level) frame) outer (word ∷ words) words
            (told-member place word words own step)
            (λ depth other. passed-member place word words other depth step)
            refl
            refl
            (omega arith)
            (ends most (suc turns) (place + 1) (own_member word own) (with_level (with_member (tag_in word) frame.level) frame) outer words (omega arith) (omega arith)
            behind
            (ap (with_member (tag_in word)) level)
            (ap (λ (frames : List Frame). run frames words) (sym (after-member frame outer word step)) ∙ sym (run_more (frame ∷ outer) word words) ∙ stands))
        | adds_required step ↦
            ends-from (suc turns) place (place + 1) own (own_required word own) frame (with_level (with_required (tag_in word) frame.level) frame) outer (word ∷ words) words
            (told-required place word words own step)
            (λ depth other. passed-required place word words other depth step)
            refl
            refl
            (omega arith)
            (ends most (suc turns) (place + 1) (own_required word own) (with_level (with_required (tag_in word) frame.level) frame) outer words (omega arith) (omega arith)
            behind
            (ap (with_required (tag_in word)) level)
            (ap (λ (frames : List Frame). run frames words) (sym (after-required frame outer word step)) ∙ sym (run_more (frame ∷ outer) word words) ∙ stands))
        | enters step ↦
            let entry : Frame = record { count_tag = count_tag_in word; needed = eqb (word / 4 % 2) 1; level = empty_level } in
            let around : Frame = with_level (with_member (count_tag_in word) frame.level) frame in
            let inner : Closed turns (place + 1) nothing_own entry (around ∷ outer) words =
            ends most turns (place + 1) nothing_own entry (around ∷ outer) words (omega arith) (omega arith) behind refl
            (ap (λ (frames : List Frame). run frames words) (sym (after-group frame outer word step)) ∙ sym (run_more (frame ∷ outer) word words) ∙ stands) in
            let closed : Frame =
            with_level
            (record {
              members = frame.level.members ++ (count_tag_in word ∷ []);
              required = frame.level.required;
              groups =
                  frame.level.groups
                  ++ (group_of_lem (count_tag_in word) (told (place + 1) 0 words nothing_own).delimiter (eqb (word / 4 % 2) 1)
                  (finish_entry (told (place + 1) 0 words nothing_own).delimiter (level_of trace turns (told (place + 1) 0 words nothing_own)))
                  ∷ []);
            })
            frame in
            ends-from (suc turns) place inner.next own (own_group word (place + 1) own) frame closed outer (word ∷ words) inner.rest
            (told-group place word words own step ∙ inner.passes 0 (own_group word (place + 1) own))
            (λ depth other. passed-group place word words other depth step ∙ inner.passes (suc depth) other)
            refl
            refl
            (omega (arith, inner.shorter))
            (ends most (suc turns) inner.next (own_group word (place + 1) own) closed outer inner.rest (omega (arith, inner.shorter)) (omega arith) inner.there
            (group-closed turns place word own frame.level words behind level)
            inner.goes_on)
        | leaves step ↦
            ends-left (suc turns) place own frame outer word words step behind level
            (ap (λ (frames : List Frame). run frames words) (sym (after-left frame outer word step)) ∙ sym (run_more (frame ∷ outer) word words) ∙ stands)
      ]

-- ---- the levels read by position are those of the steps

pub trace-told : (trace : List ℕ) (frame : Frame) → run at_start trace ≡ frame ∷ [] → frame.level ≡ level_at trace 0
trace-told trace frame stands =
    let top : Frame = record { count_tag = 0; needed = false; level = empty_level } in
    let told-so : frame ≡ with_level (level_of trace (length trace) (own_at trace 0)) top =
    ends trace frame (length trace) (length trace) 0 nothing_own top [] trace (omega arith) (omega arith) refl refl stands in
    ap (λ (reached : Frame). reached.level) told-so ∙ sym (level_within-own trace (length trace) 0)
