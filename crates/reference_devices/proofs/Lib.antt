mod Rounds
mod MessageRounds
mod MidiRounds
mod LinkLemmas
mod NetRounds
