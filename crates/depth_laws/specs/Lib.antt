pub mod LongChains
