-- Laws of `SeenTags.antt`: the empty set, a tag put in, and the test of a tag. Assumes nothing.
use Rattle.std.specs.Prelude.{◌≡◌, refl, ℕ, ◌≤◌, ◌<◌, Bool, true, false, List, [], length, Option, Some, None}
use Rattle.std.proofs.Common.{sym, ap, ◌∙◌, true≢false, arith}
use Rattle.ascending.specs.Search.{StrictlyAscending, rank_in}
use Rattle.ascii.specs.Membership.{◌∈ᵇ◌}
use Rattle.entry_tags.specs.EntryTags.{no_ranks, holds_rank, insert_rank}
use Rattle.ascii.specs.Membership.{insert_if}
use Rattle.entry_tags.specs.EntryTagsLaws.{stands-empty, seen-empty, seen-holds, seen-insert}
use Rattle.walk_steps.specs.WalkWords.{among}
use Rattle.walk_steps.specs.WalkWordsLaws.{rank_of}
use Rattle.walk_steps.specs.WalkWordsLaws.{member-found, member-nowhere, rank_in-there, rank_of_found, rank_of_low, rank_of_apart}
use Rattle.message_level.specs.SeenTags.{seen_words, SeenTags}

-- nothing is held by the words of the empty set
pub none-held : (words : List ℕ) → words ≡ no_ranks seen_words → (rank : ℕ) → rank < 10944 → holds_rank words rank ≡ true → ⊥
none-held words empty rank low held =
    true≢false (sym held ∙ ap (λ (set : List ℕ). holds_rank set rank) empty ∙ (stands-empty seen_words 0 (omega arith)).holds rank (omega arith))

module _ (defined : List ℕ) where
  pub none_seen : length defined ≤ 10922 → (words : List ℕ) → words ≡ no_ranks seen_words → SeenTags defined words []
  none_seen few words empty = rw empty (seen-empty seen_words (length defined) (among defined) (rank_of defined) (rank_of_low defined) (rank_of_apart defined) (omega arith))

  -- a search for a tag
  module _ (ascends : StrictlyAscending defined) (tag : ℕ) (found : Option ℕ) (searched : StrictlyAscending defined → found ≡ rank_in defined tag) where
    pub not_defined : found ≡ None → among defined tag ≡ false
    not_defined nowhere = member-nowhere defined tag (sym (searched ascends) ∙ nowhere)

    module _ (rank : ℕ) (there : found ≡ Some rank) where
      ranked : rank_in defined tag ≡ Some rank
      ranked = sym (searched ascends) ∙ there

      pub is-defined : among defined tag ≡ true
      is-defined = member-found defined tag rank ranked

      rank_is : rank ≡ rank_of defined tag
      rank_is = rank_of_found defined tag rank ranked

      pub rank_low : rank < length defined
      rank_low = (rank_in-there defined tag rank ranked).0

      module _ (words seen : List ℕ) (kept : SeenTags defined words seen) where
        pub rank_held : holds_rank words rank ≡ tag ∈ᵇ seen
        rank_held =
            ap (holds_rank words) rank_is
            ∙ seen-holds seen_words (length defined) (among defined) (rank_of defined) (rank_of_low defined) (rank_of_apart defined) words seen kept tag is-defined

        pub rank_inserted : (words' : List ℕ) → words' ≡ insert_rank words rank → SeenTags defined words' (insert_if (tag ∈ᵇ seen) tag seen)
        rank_inserted words' inserted =
            rw (inserted, rank_is)
            (seen-insert seen_words (length defined) (among defined) (rank_of defined) (rank_of_low defined) (rank_of_apart defined) words seen kept tag is-defined)

    -- a tag that is not defined was never seen
    pub not-defined_seen : found ≡ None → (words seen : List ℕ) → SeenTags defined words seen → false ≡ tag ∈ᵇ seen
    not-defined_seen nowhere words seen kept = go (tag ∈ᵇ seen) refl
      where
        go : (there : Bool) → tag ∈ᵇ seen ≡ there → false ≡ there
        go true there = absurd (true≢false (sym (kept.of_level tag there) ∙ not_defined nowhere))
        go false there = refl
