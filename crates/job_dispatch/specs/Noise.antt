-- Noise that the dispatcher counts (our own): datagrams that ask for nothing that may be granted.
use Rattle.std.specs.Prelude.{ℕ, [], ◌+◌, ◌/◌, ◌==◌, ◌≤◌, ◌⊎◌, if◌then◌else◌}
use Rattle.job_queue.specs.Queues.{HeldNoise, PutterKnowledge}
use Rattle.job_workers.specs.Tallies.{more}
use Rattle.job_dispatch.specs.declared.noise.NoiseCounts.{NoiseCounts}

abbrev pub no_noise : NoiseCounts
no_noise = record { second = 0; put = 0; dropped = 0 }

-- at this second: where it is another than before, nothing was put in it yet
abbrev pub in_second : NoiseCounts → ℕ → NoiseCounts
in_second noise second =
    if noise.second == second then noise else record noise { second = second; put = 0 }

abbrev pub noise_put : NoiseCounts → NoiseCounts
noise_put noise = record noise { put = noise.put + 1 }

abbrev pub noise_dropped : NoiseCounts → NoiseCounts
noise_dropped noise = record noise { dropped = more noise.dropped 1 }

-- at some moment 64 or more of the last jobs that were put, of at most 1,024, were noise
abbrev pub HeldMuchNoise : PutterKnowledge → Type 0
HeldMuchNoise putter = (count : ℕ) × HeldNoise [] putter.route putter.put count × (64 ≤ count)

-- why noise is dropped: 1,000 were put in this second, or its queue held much
abbrev pub IsTooMuch : NoiseCounts → PutterKnowledge → Type 0
IsTooMuch noise putter = (1000 ≤ noise.put) ⊎ HeldMuchNoise putter
