mod Parts
mod Lanes
mod PlaneLemmas
mod NibbleLemmas
