mod Crossing
mod Fresh
mod OneNode
