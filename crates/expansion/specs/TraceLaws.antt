-- Laws of `Trace.antt`, in its order, and the steps of the functions that write a trace. Assumes nothing.
use Rattle.std.specs.Prelude.{◌≡◌, Bool, true, false, List, [], ◌∷◌, ◌++◌, take, set, Result, Ok, Err}
use Rattle.std.proofs.Math.Path.{refl, ap}
use Rattle.std.proofs.Common.{sym, ◌∙◌, take-suc-set}
use Prim.Native.Nat.{ℕ, zero, suc, ◌+◌, ◌*◌, ◌/◌, ◌%◌, ◌≤◌, ◌<◌}
use native.Mathlib.Omega.{arith}
use Rattle.std.proofs.Math.Numerals.{add-one}
use Rattle.std.proofs.Math.ListN.{length, length-set}
use borrow.Author.Tests.{eq-eqb, ne_eqb, lt-ltb, le-ltb}
use Rattle.refusals.specs.declared.refusal.Refusal.{Refusal}
use Rattle.refusals.specs.declared.refusal.Refusal.TheVariants.{TooDeep, OutOfNodes, MembersOver}
use Rattle.layouts.specs.Limits.{Limits, gate_limits}
use Rattle.expansion.specs.declared.builder.Builder as Code
use Rattle.expansion.specs.declared.builder.Stop.{Stop}
use Rattle.expansion.specs.declared.builder.Stop.TheVariants.{Error, NoRoom}
use Rattle.expansion.specs.Expansion.{Builder, Work, noted, ran_out, push_member, push_required, add_member, add_required, add_field, spend, open_entry, empty_level}
use Rattle.expansion.specs.ExpansionLaws.{keeps_add_member, keeps_add_required}
use Rattle.expansion.specs.Trace.{Frame, with_level, with_member, with_required, after, run, at_start, builder_of, work_of, First, Stops, Adds, node_more, word_more, SpendsNode, Fits, Grown, Grows, Entering, Enters, Leaves, left}

-- ---- run, after

run-last : (frames : List Frame) (words : List ℕ) (word : ℕ) → run frames (words ++ (word ∷ [])) ≡ after (run frames words) word
unfolding run
run-last frames [] word = refl
run-last frames (first ∷ words) word = run-last (after frames first) words word

after-member : (tag : ℕ) (frame : Frame) (outer : List Frame) → tag < 4294967296 → after (frame ∷ outer) (tag * 4) ≡ with_level (with_member tag frame.level) frame ∷ outer
unfolding after
after-member tag frame outer narrow =
    let rest : tag * 4 % 4 ≡ 0 = omega arith in
    let whole : tag * 4 / 4 ≡ tag = omega arith in
    let same : tag % 4294967296 ≡ tag = omega (arith, narrow) in
    rw (eq-eqb (tag * 4 % 4) 0 rest, whole, same)

after-required : (tag : ℕ) (frame : Frame) (outer : List Frame) → tag < 4294967296 → after (frame ∷ outer) (tag * 4 + 1) ≡ with_level (with_required tag frame.level) frame ∷ outer
unfolding after
after-required tag frame outer narrow =
    let rest : (tag * 4 + 1) % 4 ≡ 1 = omega arith in
    let whole : (tag * 4 + 1) / 4 ≡ tag = omega arith in
    let same : tag % 4294967296 ≡ tag = omega (arith, narrow) in
    rw (rest, whole, same)

-- ---- a word more

module _ (len : ℕ) (trace : List ℕ) (word : ℕ) (frame : Frame) (outer : List Frame) where
  pub one_more : len < length trace
      → run at_start (take len trace) ≡ frame ∷ outer
      → run at_start (take (len + 1) (set trace len word)) ≡ after (frame ∷ outer) word
  one_more inside stands =
      let taken : take (len + 1) (set trace len word) ≡ take len trace ++ (word ∷ []) = rw add-one (take-suc-set trace len word inside) in
      ap (run at_start) taken ∙ run-last at_start (take len trace) word ∙ ap (λ (frames : List Frame). after frames word) stands

-- ---- First

first-noted : (refusal other : Refusal) (work : Work) → First refusal work.builder → First refusal (noted other work).builder
first-noted refusal other work first = (first.0 ++ (other ∷ []), ap (λ (errors : List Refusal). errors ++ (other ∷ [])) first.1)

pub first_member : (limits : Limits) (refusal : Refusal) (tag : ℕ) (work : Work) → First refusal work.builder → First refusal (add_member limits tag work).builder
first_member limits refusal tag work first =
    keeps_add_member limits (λ later. First refusal later.builder) tag work (λ within. first) (first-noted refusal MembersOver (push_member tag work) first)

pub first-required : (limits : Limits) (refusal : Refusal) (tag : ℕ) (work : Work) → First refusal work.builder → First refusal (add_required limits tag work).builder
first-required limits refusal tag work first =
    keeps_add_required limits (λ later. First refusal later.builder) tag work (λ within. first) (first-noted refusal MembersOver (push_required tag work) first)

-- ---- Stops

pub stops_same : (stop : Stop) (trace : List ℕ) (one other : Builder) → one ≡ other → Stops stop trace one → Stops stop trace other
stops_same stop trace one other same stops = rw (← same) stops

pub stops-later : (stop : Stop) (trace : List ℕ) (later : Work → Work) (work : Work)
    → ((refusal : Refusal) → First refusal work.builder → First refusal (later work).builder)
    → Stops stop trace work.builder
    → Stops stop trace (later work).builder
stops-later (Error refusal) trace later work keeps stops = keeps refusal stops
stops-later NoRoom trace later work keeps stops = stops

-- ---- Adds: one change and then another

-- where a change met no error, it is known from its level
pub same-work : (next : Code.Builder) (work : Work) → work.builder ≡ builder_of next → work ≡ work_of next work.level
same-work next work same = ap {B = Work} (λ (shared : Builder). record { builder = shared; level = work.level }) same

module _ (earlier later : Work → Work) (builder : Code.Builder) (before middle : List ℕ) where
  pub adds_then : (next : Code.Builder) (added : Result Code.Builder Stop) (trace : List ℕ)
      → Adds earlier builder before (Ok next) middle
      → Adds later next middle added trace
      → Adds (λ work. later (earlier work)) builder before added trace
  unfolding Adds
  adds_then next (Ok last) trace first second = λ frame outer stands.
      let begun = work_of builder frame.level in
      let one = first frame outer stands in
      let two = second (with_level (earlier begun).level frame) outer one.0 in (
        two.0 ∙ ap (λ (work : Work). with_level (later work).level frame ∷ outer) (sym (same-work next (earlier begun) one.1)),
        ap (λ (work : Work). (later work).builder) (same-work next (earlier begun) one.1) ∙ two.1,
      )
  adds_then next (Err stop) trace first second = λ frame outer stands.
      let begun = work_of builder frame.level in
      let one = first frame outer stands in
      let two = second (with_level (earlier begun).level frame) outer one.0 in
      stops_same stop trace (later (work_of next (earlier begun).level)).builder (later (earlier begun)).builder
      (ap (λ (work : Work). (later work).builder) (sym (same-work next (earlier begun) one.1)))
      two

  pub adds-stops : (stop : Stop)
      → Adds earlier builder before (Err stop) middle
      → ((refusal : Refusal) (work : Work) → First refusal work.builder → First refusal (later work).builder)
      → Adds (λ work. later (earlier work)) builder before (Err stop) middle
  unfolding Adds
  adds-stops stop first keeps = λ frame outer stands.
      let begun = earlier (work_of builder frame.level) in
      stops-later stop middle later begun (λ refusal met. keeps refusal begun met) (first frame outer stands)

pub grown-then : (builder next last : Code.Builder) → Grown builder next → Grown next last → Grown builder last
grown-then builder next last first second = record {
  fits = second.fits;
  spent = omega (arith, first.spent, second.spent);
  slack = omega (arith, first.slack, second.slack);
}

-- ---- add_member, add_required

module _ (builder : Code.Builder) (trace : List ℕ) (tag : ℕ) (narrow : tag < 4294967296) (fits : Fits builder) where
  abbrev pub member_more : Code.Builder
  member_more = record { nodes = builder.nodes; members = builder.members + 1; required = builder.required; len = builder.len + 1 }

  abbrev pub required_more : Code.Builder
  required_more = record { nodes = builder.nodes; members = builder.members; required = builder.required + 1; len = builder.len + 1 }

  pub adds_member : builder.members < 8192 → builder.len < length trace → Adds (add_member gate_limits tag) builder trace (Ok member_more) (set trace builder.len (tag * 4))
  unfolding add_member Adds
  adds_member room within frame outer stands =
      rw (lt-ltb builder.members 8192 room) (
        one_more builder.len trace (tag * 4) frame outer within stands ∙ after-member tag frame outer narrow,
        rw add-one refl,
      )

  pub adds-member_over : 8192 ≤ builder.members → Adds (add_member gate_limits tag) builder trace (Err (Error MembersOver)) trace
  unfolding add_member Adds
  adds-member_over over frame outer stands = rw (le-ltb builder.members 8192 over) ([], refl)

  pub adds-member_full : builder.members < 8192 → length trace ≤ builder.len → Adds (add_member gate_limits tag) builder trace (Err NoRoom) trace
  unfolding Adds
  adds-member_full room full frame outer stands = omega (arith, fits.nodes, fits.required, fits.len)

  pub member-grows : builder.members < 8192 → Grown builder member_more
  member-grows room = record {
    fits = record { nodes = fits.nodes; members = omega arith; required = fits.required; len = omega (arith, fits.len) };
    spent = omega arith;
    slack = omega arith;
  }

  pub adds_required : builder.required < 2048 → builder.len < length trace → Adds (add_required gate_limits tag) builder trace (Ok required_more) (set trace builder.len (tag * 4 + 1))
  unfolding add_required Adds
  adds_required room within frame outer stands =
      rw (lt-ltb builder.required 2048 room) (
        one_more builder.len trace (tag * 4 + 1) frame outer within stands ∙ after-required tag frame outer narrow,
        rw add-one refl,
      )

  pub adds-required_over : 2048 ≤ builder.required → Adds (add_required gate_limits tag) builder trace (Err (Error MembersOver)) trace
  unfolding add_required Adds
  adds-required_over over frame outer stands = rw (le-ltb builder.required 2048 over) ([], refl)

  pub adds-required_full : builder.required < 2048 → length trace ≤ builder.len → Adds (add_required gate_limits tag) builder trace (Err NoRoom) trace
  unfolding Adds
  adds-required_full room full frame outer stands = omega (arith, fits.nodes, fits.members, fits.len)

  pub required-grows : builder.required < 2048 → Grown builder required_more
  required-grows room = record {
    fits = record { nodes = fits.nodes; members = fits.members; required = omega arith; len = omega (arith, fits.len) };
    spent = omega arith;
    slack = omega arith;
  }

-- ---- add_field

module _ (builder next : Code.Builder) (before middle : List ℕ) (tag : ℕ) where
  pub field_required : (added : Result Code.Builder Stop) (trace : List ℕ)
      → Adds (add_member gate_limits tag) builder before (Ok next) middle
      → Adds (add_required gate_limits tag) next middle added trace
      → Adds (add_field gate_limits tag true) builder before added trace
  unfolding add_field Adds
  field_required added trace first second = adds_then (add_member gate_limits tag) (add_required gate_limits tag) builder before middle next added trace first second

pub field_over : (builder : Code.Builder) (before middle : List ℕ) (tag : ℕ) (required : Bool) (stop : Stop)
    → Adds (add_member gate_limits tag) builder before (Err stop) middle
    → Adds (add_field gate_limits tag required) builder before (Err stop) middle
unfolding add_field Adds
field_over builder before middle tag true stop first =
    adds-stops (add_member gate_limits tag) (add_required gate_limits tag) builder before middle stop first
    (λ refusal work met. first-required gate_limits refusal tag work met)
field_over builder before middle tag false stop first = first

pub field_optional : (builder : Code.Builder) (before : List ℕ) (tag : ℕ) (added : Result Code.Builder Stop) (trace : List ℕ)
    → Adds (add_member gate_limits tag) builder before added trace
    → Adds (add_field gate_limits tag false) builder before added trace
unfolding add_field Adds
field_optional builder before tag (Ok next) trace first = first
field_optional builder before tag (Err stop) trace first = first

pub grows_then : (builder next : Code.Builder) (added : Result Code.Builder Stop) → Grown builder next → Grows next added → Grows builder added
unfolding Grows
grows_then builder next (Ok last) first second = grown-then builder next last first second
grows_then builder next (Err stop) first second = tt

pub grown_grows : (builder next : Code.Builder) → Grown builder next → Grows builder (Ok next)
unfolding Grows
grown_grows builder next grown = grown

pub done-grown : (builder next : Code.Builder) → Grows builder (Ok next) → Grown builder next
unfolding Grows
done-grown builder next grows = grows

pub stopped_grows : (builder : Code.Builder) (stop : Stop) → Grows builder (Err stop)
unfolding Grows
stopped_grows builder stop = tt

-- ---- spend

module _ (builder : Code.Builder) (name : ℕ) where
  pub spends_deep : (depth_left : ℕ) → depth_left ≡ 0 → SpendsNode builder name depth_left (Err (Error (TooDeep name)))
  unfolding spend SpendsNode
  spends_deep zero none level = refl
  spends_deep (suc depth) none level = absurd (omega arith)

  pub spends_node : (depth_left : ℕ) → (depth_left ≡ 0 → ⊥) → builder.nodes < 4096
      → SpendsNode builder name depth_left (Ok (node_more builder))
  unfolding spend SpendsNode
  spends_node zero some room = absurd (some refl)
  spends_node (suc depth) some room = (refl, λ level. rw (lt-ltb builder.nodes 4096 room, add-one))

  pub spends_over : (depth_left : ℕ) → (depth_left ≡ 0 → ⊥) → 4096 ≤ builder.nodes → SpendsNode builder name depth_left (Err (Error (OutOfNodes name)))
  unfolding spend ran_out SpendsNode
  spends_over zero some over level = absurd (some refl)
  spends_over (suc depth) some over level = rw (le-ltb builder.nodes 4096 over)

  pub node-grows : Fits builder → builder.nodes < 4096
      → Grown builder (node_more builder)
  node-grows fits room = record {
    fits = record { nodes = omega arith; members = fits.members; required = fits.required; len = omega (arith, fits.len) };
    spent = omega arith;
    slack = omega arith;
  }

-- ---- enter_group

pub entering_required : (count : ℕ) → count < 4294967296 → Entering count true (count * 8 + 6)
entering_required count narrow =
    let bit : (count * 8 + 6) / 4 % 2 ≡ 1 = omega arith in
    record { step = omega arith; tag = omega arith; flag = eq-eqb ((count * 8 + 6) / 4 % 2) 1 bit }

pub entering_optional : (count : ℕ) → count < 4294967296 → Entering count false (count * 8 + 2)
entering_optional count narrow =
    let bit : (count * 8 + 2) / 4 % 2 ≡ 0 = omega arith in
    record { step = omega arith; tag = omega arith; flag = ne_eqb ((count * 8 + 2) / 4 % 2) 1 (λ one. omega arith) }

after-entering : (count : ℕ) (required : Bool) (word : ℕ) (frame : Frame) (outer : List Frame)
    → Entering count required word
    → after (frame ∷ outer) word
    ≡ record { count_tag = count; needed = required; level = empty_level } ∷ with_level (with_member count frame.level) frame ∷ outer
unfolding after
after-entering count required word frame outer entering = rw (entering.step, entering.tag, entering.flag)

after-leaving : (delimiter : ℕ) (entry : Frame) (outer : List Frame) → delimiter < 4294967296 → after (entry ∷ outer) (delimiter * 4 + 3) ≡ left delimiter entry outer
unfolding after
after-leaving delimiter entry outer narrow =
    let rest : (delimiter * 4 + 3) % 4 ≡ 3 = omega arith in
    let whole : (delimiter * 4 + 3) / 4 ≡ delimiter = omega arith in
    let same : delimiter % 4294967296 ≡ delimiter = omega (arith, narrow) in
    rw (rest, whole, same)

module _ (builder : Code.Builder) (trace : List ℕ) (count : ℕ) (required : Bool) (delimiter word : ℕ) (narrow : delimiter < 4294967296) (fits : Fits builder) where
  abbrev pub group_more : Code.Builder
  group_more = record { nodes = builder.nodes; members = builder.members + 2; required = builder.required; len = builder.len + 2 }

  pub enters : Entering count required word
      → builder.members + 1 < 8192
      → builder.len + 1 < length trace
      → Enters count required delimiter builder trace (Ok group_more) (set (set trace builder.len word) (builder.len + 1) (delimiter * 4))
  unfolding Enters add_member
  enters entering room space = λ frame outer stands.
      let within : builder.len < length trace = omega (arith, space) in
      let also : builder.len + 1 < length (set trace builder.len word) =
      omega (arith, space, length-set trace builder.len word) in
      let one = one_more builder.len trace word frame outer within stands ∙ after-entering count required word frame outer entering in
      let two =
      one_more (builder.len + 1) (set trace builder.len word) (delimiter * 4)
      (record { count_tag = count; needed = required; level = empty_level })
      (with_level (with_member count frame.level) frame ∷ outer)
      also
      one
      ∙ after-member delimiter (record { count_tag = count; needed = required; level = empty_level }) (with_level (with_member count frame.level) frame ∷ outer) narrow in
      let len : builder.len + 2 ≡ builder.len + 1 + 1 = omega arith in
      let more : builder.members + 2 ≡ suc (suc builder.members) = omega arith in
      let second : suc builder.members < 8192 = omega arith in
      rw (len, more, lt-ltb builder.members 8192 (omega arith), lt-ltb (suc builder.members) 8192 second) (two, refl)

  pub enters-over : 8192 ≤ builder.members + 1 → Enters count required delimiter builder trace (Err (Error MembersOver)) trace
  unfolding Enters add_member
  enters-over over = λ frame outer stands.
      keeps_add_member gate_limits (λ around. First MembersOver (open_entry gate_limits delimiter around).builder) count (work_of builder frame.level)
      (λ within. let full : 8192 ≤ suc builder.members = omega arith in rw (le-ltb (suc builder.members) 8192 full) ([], refl))
      (first_member gate_limits MembersOver delimiter (record { builder = (noted MembersOver (push_member count (work_of builder frame.level))).builder; level = empty_level }) ([], refl))

  pub enters-full : builder.members + 1 < 8192 → length trace ≤ builder.len + 1 → Enters count required delimiter builder trace (Err NoRoom) trace
  unfolding Enters
  enters-full room full = λ frame outer stands. omega (arith, fits.nodes, fits.required, fits.len)

  pub enter_grows : builder.members + 1 < 8192 → Grown builder group_more
  enter_grows room = record {
    fits = record { nodes = fits.nodes; members = omega arith; required = fits.required; len = omega (arith, fits.len) };
    spent = omega arith;
    slack = omega arith;
  }

-- ---- leave_group

module _ (builder : Code.Builder) (trace : List ℕ) (delimiter : ℕ) (narrow : delimiter < 4294967296) (fits : Fits builder) (room : builder.len < builder.members + builder.required + builder.nodes) where
  pub leaves : builder.len < length trace → Leaves delimiter builder trace (Ok (word_more builder)) (set trace builder.len (delimiter * 4 + 3))
  unfolding Leaves
  leaves within = (
    λ entry around outer stands. (
      one_more builder.len trace (delimiter * 4 + 3) entry (around ∷ outer) within stands ∙ after-leaving delimiter entry (around ∷ outer) narrow,
      refl,
    ),
    (refl, record { nodes = fits.nodes; members = fits.members; required = fits.required; len = omega arith }),
  )

  pub leaves-full : length trace ≤ builder.len → Leaves delimiter builder trace (Err NoRoom) trace
  unfolding Leaves
  leaves-full full = omega (arith, fits.nodes, fits.members, fits.required)
