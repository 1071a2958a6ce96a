-- `entry_tags::ranks::count` meets its contract: a level uses a 64th of its members in words, rounded up.
use Rattle.std.proofs.Common.{◌≡◌, ℕ, ◌+◌, ◌/◌, take, ap, ◌∙◌, arith}
use Rattle.entry_tags.specs.EntryTags.{ones_of, rank_count}
use Rattle.entry_tags.proofs.ranks.count.Goals as goal

pub returns : goal.returns
unfolding rank_count
returns c =
    let used : c.div_ceil.result ≡ (c.args.members + 63) / 64 = omega (arith, c.div_ceil.ensures) in
    c.ones_in.ensures ∙ ap (λ (count : ℕ). ones_of (take count c.args.words.now)) used
