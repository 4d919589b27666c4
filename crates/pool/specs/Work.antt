-- What the workers of a run return, and where their answers are put.
use Rattle.std.specs.Prelude.{◌≡◌, ℕ, ◌+◌, ◌<◌, ◌≤◌, true, List, [], ◌∷◌, length, map, slice_get, slice_index_or, Option, Some, None, is_some, IsTrue, All, Result, IfOk}
use Rattle.std.specs.List.{range_with_len}
use Rattle.std.specs.declared.thread.PromisedHandle.{PromisedHandle}
use Rattle.grid.specs.declared.OutOfMemory.{OutOfMemory}
use Rattle.pool.specs.declared.dealer.Dealer as Dealer
use Rattle.pool.specs.declared.gate.Gate as Gate
use Rattle.pool.specs.declared.job.Job as Job
use Rattle.pool.specs.declared.worker.WorkerAnswers.{WorkerAnswers}
use Rattle.pool.specs.declared.worker.WorksThrough.{WorksThrough}

-- The answer at each place is right for the number of the place.
abbrev pub RightInOrder : {Out : Type 0} → (ℕ → Out → Type 0) → List Out → Type 0
RightInOrder {Out} right answers = (k : ℕ) (answer : Out) → slice_get answers k ≡ Some answer → right k answer

-- A number below n, with an answer that is right for it.
abbrev pub IsRightAnswer : {Out : Type 0} → (ℕ → Out → Type 0) → ℕ → ℕ × Out → Type 0
IsRightAnswer right n pair = (pair.0 < n) × right pair.0 pair.1

-- The fact holds of each element and its number, counted from a first number.
abbrev pub EachFrom : {X : Type 0} → (ℕ → X → Type 0) → ℕ → List X → Type 0
EachFrom fact first [] = Unit {0}
EachFrom fact first (x ∷ xs) = fact first x × EachFrom fact (first + 1) xs

-- New seats of this dealer, in their order: they were given nothing, and are at most 16.
pub record AreDealt {D Seat : Type 0} (d : Dealer.Ghosts D Seat) (dealer : D) (seats : List Seat) : Type 0 where
  pub fresh : All (λ s. d.fits dealer s × (d.given s ≡ [])) seats
  pub numbers : map d.number seats ≡ range_with_len 0 (length seats)
  pub few : length seats ≤ 16

module _ {D Seat : Type 0} (d : Dealer.Ghosts D Seat) {J Out Scratch : Type 0} (j : Job.Ghosts J Out Scratch) where
  -- What a worker returns: exactly the numbers that its seat was given have an answer, in their order. Its seat has seen that none
  -- is left.
  pub record AreWorkerAnswers (dealer : D) (job : J) (worker : ℕ) (answers : WorkerAnswers Seat Out) : Type 0 where
    pub fits : d.fits dealer answers.seat
    pub number : d.number answers.seat ≡ worker
    pub ended : d.ended answers.seat ≡ true
    pub numbers : map (λ pair. pair.0) answers.pairs.items ≡ d.given answers.seat
    pub right : All (IsRightAnswer (j.right job) (d.count dealer)) answers.pairs.items

  -- The result of a worker: its answers, or that it is out of memory.
  abbrev pub IsWorkerResult : D → J → ℕ → Result (WorkerAnswers Seat Out) OutOfMemory → Type 0
  IsWorkerResult dealer job worker result = IfOk result (AreWorkerAnswers dealer job worker)

  -- The results of the workers, in the order of the workers' numbers.
  abbrev pub AreWorkerResults : D → J → ℕ → List (Result (WorkerAnswers Seat Out) OutOfMemory) → Type 0
  AreWorkerResults dealer job workers results = EachFrom (IsWorkerResult dealer job) 0 results × (length results ≡ workers)

  module _ {G : Type 0} (g : Gate.Ghosts G) where
    -- The worker of this number can do the job for each number of the dealer, once it has entered for it.
    abbrev pub CanWork : D → J → G → ℕ → Type 0
    CanWork dealer job gate worker = (k : ℕ) → k < d.count dealer → g.entered gate worker k → j.can_work job k

    -- Each of this many workers can do the job for each number of the dealer, once it has entered for it.
    abbrev pub AllCanWork : D → J → G → ℕ → Type 0
    AllCanWork dealer job gate workers = (worker : ℕ) → worker < workers → CanWork dealer job gate worker

-- The worker of this number has promised to work for this dealer and this job.
abbrev pub IsPromised : {D J T : Type 0} → D → J → ℕ → PromisedHandle T (WorksThrough D J) → Type 0
IsPromised dealer job number worker = (worker.promise.dealer.value ≡ dealer) × (worker.promise.job.value ≡ job) × (worker.promise.number ≡ number)

-- Each answer is right for the number of its place.
abbrev pub AreRight : {Out : Type 0} → (ℕ → Out → Type 0) → List (Option Out) → Type 0
AreRight {Out} right places = (k : ℕ) (answer : Out) → slice_index_or places k None ≡ Some answer → right k answer

-- There is an answer at place k.
abbrev pub HasAnswer : {Out : Type 0} → List (Option Out) → ℕ → Type 0
HasAnswer places k = IsTrue (is_some (slice_index_or places k None))
