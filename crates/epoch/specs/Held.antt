-- What is held under a tag.
use Rattle.std.specs.Prelude.{ℕ, Bool, eqb}
use Rattle.time.specs.Pick.{and}

-- something is held under the tag
unfoldable pub is_tag : Bool → ℕ → ℕ → Bool
is_tag some held tag = and some (eqb held tag)
