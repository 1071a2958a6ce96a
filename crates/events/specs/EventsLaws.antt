-- Laws of `Events.antt`: lists without fault events, and what `of_groups` leaves. Assumes nothing.
use Rattle.std.specs.Prelude.{◌≡◌, refl, ◌⊎◌, ◌↔◌, true, false, List, [], ◌∷◌, ◌++◌}
use Rattle.std.proofs.Common.{inl, inr}
use Rattle.ascii.specs.Notation.{◌≤ᵇ◌}
use Rattle.events.specs.declared.event.Kind.{Kind}
use Rattle.events.specs.declared.event.Kind.TheVariants.{Enter, BadCount, Delim, Repeat, Close, Miscount, Deep, Leave, Twice, Foreign, Missing}
use Rattle.events.specs.declared.event.Event.{Event}
use Rattle.events.specs.Events.{kind_number, is_fault, NoFault, of_groups}

-- ---- NoFault

module _ (events : List Event) where
  pub no_fault_append : (before : List Event) → NoFault before → NoFault events → NoFault (before ++ events)
  no_fault_append [] good also = also
  no_fault_append (event ∷ before) good also = (good.0, no_fault_append before good.1 also)

  pub no_fault_right : (before : List Event) → NoFault (before ++ events) → NoFault events
  no_fault_right [] good = good
  no_fault_right (event ∷ before) good = no_fault_right before good.1

pub no_fault_left : (before events : List Event) → NoFault (before ++ events) → NoFault before
no_fault_left [] events good = tt
no_fault_left (event ∷ before) events good = (good.0, no_fault_left before events good.1)

-- ---- of_groups

-- a kind behind 8 is no fault
of_groups-cases : (kind : Kind) → (kind_number kind ≤ᵇ 8 ≡ true) ⊎ ((kind_number kind ≤ᵇ 8 ≡ false) × (is_fault kind ≡ false))
of_groups-cases Enter = inl refl
of_groups-cases (BadCount position) = inl refl
of_groups-cases (Delim tag) = inl refl
of_groups-cases (Repeat tag) = inl refl
of_groups-cases (Close entry seen) = inl refl
of_groups-cases (Miscount declared entries) = inl refl
of_groups-cases Deep = inl refl
of_groups-cases (Leave well-formed entries) = inl refl
of_groups-cases (Twice tag) = inr (refl, refl)
of_groups-cases (Foreign tag) = inr (refl, refl)
of_groups-cases (Missing tag) = inr (refl, refl)

-- the fault events are all of groups
pub no_fault_of_groups : (events : List Event) → NoFault (of_groups events) ↔ NoFault events
no_fault_of_groups events = (whole events, part events)
  where
    whole : (events : List Event) → NoFault (of_groups events) → NoFault events
    whole [] good = tt
    whole (event ∷ rest) good = go (of_groups-cases event.kind) (λ left. whole rest left)
      where
        go : (kind_number event.kind ≤ᵇ 8 ≡ true) ⊎ ((kind_number event.kind ≤ᵇ 8 ≡ false) × (is_fault event.kind ≡ false))
            → (NoFault (of_groups rest) → NoFault rest) → NoFault (event ∷ rest)
        go (inl stays) others =
            let good' : NoFault (event ∷ of_groups rest) = rw stays at good in
            (good'.0, others good'.1)
        go (inr goes) others = (goes.1, others (rw goes.0 at good))

    part : (events : List Event) → NoFault events → NoFault (of_groups events)
    part [] good = tt
    part (event ∷ rest) good = go (of_groups-cases event.kind) (part rest good.1)
      where
        go : (kind_number event.kind ≤ᵇ 8 ≡ true) ⊎ ((kind_number event.kind ≤ᵇ 8 ≡ false) × (is_fault event.kind ≡ false))
            → NoFault (of_groups rest) → NoFault (of_groups (event ∷ rest))
        go (inl stays) others = rw stays (good.0, others)
        go (inr goes) others = rw goes.0 others

pub of_groups-append : (before events : List Event) → of_groups (before ++ events) ≡ of_groups before ++ of_groups events
of_groups-append [] events = refl
of_groups-append (event ∷ before) events = go (of_groups-cases event.kind) (of_groups-append before events)
  where
    go : (kind_number event.kind ≤ᵇ 8 ≡ true) ⊎ ((kind_number event.kind ≤ᵇ 8 ≡ false) × (is_fault event.kind ≡ false))
        → of_groups (before ++ events) ≡ of_groups before ++ of_groups events
        → of_groups ((event ∷ before) ++ events) ≡ of_groups (event ∷ before) ++ of_groups events
    go (inl stays) others = rw (stays, others)
    go (inr goes) others = rw (goes.0, others)
