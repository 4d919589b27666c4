-- Checks, and others that are made of them.
use Rattle.std.proofs.Common.{◌≡◌, inl, inr, ap}
use Rattle.checks.specs.Checking.{Checks, done, check, allocate, followed_by, reported_as, Pass, FirstIs}

-- ---- checks and then others
pub pass_both : {R : Type 0} (first later : Checks R) → Pass first → Pass later → Pass (followed_by first later)
pass_both done later p q = q
pass_both (check holds reported rest) later p q = (p.0, pass_both rest later p.1 q)
pass_both (allocate reported rest) later p q = pass_both rest later p q

pub pass_each : {R : Type 0} (first later : Checks R) → Pass (followed_by first later) → Pass first × Pass later
pass_each done later p = (record {}, p)
pass_each (check holds reported rest) later p = let each = pass_each rest later p.1 in ((p.0, each.0), each.1)
pass_each (allocate reported rest) later p = pass_each rest later p

pub fails_before : {R : Type 0} (first later : Checks R) (r : R) → FirstIs first r → FirstIs (followed_by first later) r
fails_before done later r f = absurd f
fails_before (check holds reported rest) later r (inl here) = inl here
fails_before (check holds reported rest) later r (inr next) = inr (next.0, fails_before rest later r next.1)
fails_before (allocate reported rest) later r (inl here) = inl here
fails_before (allocate reported rest) later r (inr next) = inr (fails_before rest later r next)

pub fails_later : {R : Type 0} (first later : Checks R) (r : R) → Pass first → FirstIs later r → FirstIs (followed_by first later) r
fails_later done later r p f = f
fails_later (check holds reported rest) later r p f = inr (p.0, fails_later rest later r p.1 f)
fails_later (allocate reported rest) later r p f = inr (fails_later rest later r p f)

-- ---- checks that report something else
pub passes_as : {R S : Type 0} (f : R → S) (checks : Checks R) → Pass checks → Pass (reported_as f checks)
passes_as f done p = p
passes_as f (check holds reported rest) p = (p.0, passes_as f rest p.1)
passes_as f (allocate reported rest) p = passes_as f rest p

pub passed_as : {R S : Type 0} (f : R → S) (checks : Checks R) → Pass (reported_as f checks) → Pass checks
passed_as f done p = p
passed_as f (check holds reported rest) p = (p.0, passed_as f rest p.1)
passed_as f (allocate reported rest) p = passed_as f rest p

pub fails_as : {R S : Type 0} (f : R → S) (checks : Checks R) (r : R) → FirstIs checks r → FirstIs (reported_as f checks) (f r)
fails_as f done r first = absurd first
fails_as f (check holds reported rest) r (inl here) = inl (here.0, ap f here.1)
fails_as f (check holds reported rest) r (inr next) = inr (next.0, fails_as f rest r next.1)
fails_as f (allocate reported rest) r (inl here) = inl (ap f here)
fails_as f (allocate reported rest) r (inr next) = inr (fails_as f rest r next)

-- ---- if each check holds, only an allocation fails
abbrev pub Allocates : {R : Type 0} → (R → Type 0) → Checks R → Type 0
Allocates P done = Unit {0}
Allocates P (check holds reported rest) = Allocates P rest
Allocates P (allocate reported rest) = P reported × Allocates P rest

pub allocates_both : {R : Type 0} (P : R → Type 0) (first later : Checks R) → Allocates P first → Allocates P later → Allocates P (followed_by first later)
allocates_both P done later a b = b
allocates_both P (check holds reported rest) later a b = allocates_both P rest later a b
allocates_both P (allocate reported rest) later a b = (a.0, allocates_both P rest later a.1 b)

pub allocates_as : {R S : Type 0} (f : R → S) (P : S → Type 0) (checks : Checks R) → Allocates (λ r. P (f r)) checks → Allocates P (reported_as f checks)
allocates_as f P done a = a
allocates_as f P (check holds reported rest) a = allocates_as f P rest a
allocates_as f P (allocate reported rest) a = (a.0, allocates_as f P rest a.1)

pub only_allocation : {R : Type 0} (P : R → Type 0) (checks : Checks R) (r : R) → Allocates P checks → FirstIs checks r → Pass checks → P r
only_allocation P done r a first pass = absurd first
only_allocation P (check holds reported rest) r a (inl here) pass = absurd (here.0 pass.0)
only_allocation P (check holds reported rest) r a (inr next) pass = only_allocation P rest r a next.1 pass.1
only_allocation P (allocate reported rest) r a (inl here) pass = rw here at a.0
only_allocation P (allocate reported rest) r a (inr next) pass = only_allocation P rest r a.1 next pass
