-- What a walk over the members of a set gives, lowest first.
use Rattle.std.specs.Prelude.{◌≡◌, ℕ, ◌<◌, Option, MatchOption}
use Rattle.bitsets.specs.Bits.{lowest, without_lowest}
use Rattle.bitsets.specs.declared.members.Members.{Members}

-- m is the smallest member of a set, and the rest of the set is left
pub record Next (set m left : ℕ) : Type 0 where
  pub some : 0 < set
  pub first : m ≡ lowest set
  pub rest : left ≡ without_lowest set

-- a step of the walk: nothing, where no member is left
abbrev pub NextMember : Members → Option ℕ → Members → Type 0
NextMember s r t = MatchOption r (s.rest ≡ 0) (λ m. Next s.rest m t.rest)
